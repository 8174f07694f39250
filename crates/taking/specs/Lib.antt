pub mod Effects
pub mod Promises
pub mod Flat
