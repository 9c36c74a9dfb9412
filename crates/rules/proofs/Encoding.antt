-- Files and rows as bytes: what is written is read back, and what an accepted file is.
pub mod Pieces
pub mod Front
pub mod Rows
pub mod Body
pub mod SoundFile
pub mod RoundTrip
pub mod Undo
pub mod ReplyNumbers
pub mod ReplyBytes
