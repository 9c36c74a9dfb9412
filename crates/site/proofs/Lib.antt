pub mod HoldsOffer
pub mod UnitsWritten
pub mod Decodes
