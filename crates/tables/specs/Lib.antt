pub mod TableOfLowering
pub mod TableOfLoads
pub mod TableOfSharedEdges
pub mod TableOfPackings
