pub mod Chunks
pub mod Lengths
pub mod Written
pub mod Packed
