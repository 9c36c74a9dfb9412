pub mod Valley
pub mod Regions
pub mod Signed
pub mod Giving
pub mod Vertex
pub mod Standing
