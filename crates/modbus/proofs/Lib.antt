pub mod Answers
pub mod Registers
