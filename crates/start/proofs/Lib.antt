pub mod Bindings
pub mod Filling
pub mod Unhandling
pub mod Beginning
