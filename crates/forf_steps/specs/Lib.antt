-- What the contracts of this crate say.
pub mod Stepping
pub mod Running
