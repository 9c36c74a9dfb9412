pub mod Day
pub mod Clauses
pub mod Claims
pub mod Cases
