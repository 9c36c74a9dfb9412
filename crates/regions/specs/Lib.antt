pub mod Regions
pub mod Clauses
