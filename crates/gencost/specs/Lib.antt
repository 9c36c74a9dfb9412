pub mod Row
pub mod Clauses
pub mod Cases
pub mod Claims
