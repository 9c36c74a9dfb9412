pub mod Stating
pub mod Solved
pub mod StepOne
