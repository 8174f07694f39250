pub mod Copying
pub mod Logging
pub mod Named
pub mod Returns
pub mod Lines
pub mod Stacks
