pub mod Clauses
pub mod DayTold
