pub mod Runs
pub mod Clauses
pub mod Claims
pub mod Cases
pub mod Watches
pub mod Sequences
pub mod Limits
