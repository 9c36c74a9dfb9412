pub mod Curve
pub mod Clauses
