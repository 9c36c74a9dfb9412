pub mod Judging
pub mod Claims
pub mod Clauses
pub mod Cases
