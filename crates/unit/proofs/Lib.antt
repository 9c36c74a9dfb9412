pub mod Zones
pub mod Edges
