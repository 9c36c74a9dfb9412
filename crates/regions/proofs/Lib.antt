pub mod KeptOutside
pub mod Windowed
pub mod Ascending
pub mod HeldFrom
pub mod Dividing
