pub mod Currents
pub mod Parts
pub mod Copying
pub mod Filling
pub mod Writing
pub mod Making
pub mod Prefixes
pub mod Reading
