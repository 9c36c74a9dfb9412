pub mod ReplyWritten
pub mod Endings
