pub mod Branching
pub mod Nodes
pub mod Refining
pub mod Claims
pub mod Cases
