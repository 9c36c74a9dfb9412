pub mod Site
pub mod Clauses
