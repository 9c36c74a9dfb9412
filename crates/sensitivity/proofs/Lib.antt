pub mod Carried
pub mod Computed
pub mod Writing
pub mod Tracing
pub mod Outcomes
pub mod Claims
