pub mod Putting
pub mod Reading
pub mod Valuing
pub mod Converting
