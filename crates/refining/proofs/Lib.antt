pub mod Ranged
pub mod NodesHeld
pub mod Exchanged
pub mod ProgressHeld
pub mod NodeVisited
pub mod RefinedWritten
pub mod Endings
