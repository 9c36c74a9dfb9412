pub mod View
pub mod Clauses
pub mod Registers
pub mod Views
