pub mod History
pub mod Halting
