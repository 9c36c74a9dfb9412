pub mod Histories
pub mod OneSlot
pub mod Solving
pub mod Folding
pub mod Opens
pub mod Claims
pub mod Starts
