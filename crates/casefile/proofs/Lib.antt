pub mod Head
pub mod Body
pub mod Contents
pub mod File
