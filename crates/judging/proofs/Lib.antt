pub mod Summing
pub mod Outcomes
pub mod Floors
pub mod Judgements
pub mod Claims
pub mod Cases
