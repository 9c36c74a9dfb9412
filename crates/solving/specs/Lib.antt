pub mod ReplyHeld
pub mod Clauses
