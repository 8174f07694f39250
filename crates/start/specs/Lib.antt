pub mod Predefined
pub mod Begins
