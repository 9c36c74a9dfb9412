pub mod Floor
pub mod Offers
pub mod Allocating
pub mod Covering
