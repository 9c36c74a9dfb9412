pub mod Confirmed
pub mod TwoMultipliers
pub mod NodeEvaluated
