pub mod Width
pub mod Integers
pub mod Signed
