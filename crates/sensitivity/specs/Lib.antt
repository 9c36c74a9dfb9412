pub mod Floors
pub mod Claims
pub mod Clauses
pub mod Cases
