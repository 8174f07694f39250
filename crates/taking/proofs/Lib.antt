pub mod Moves
pub mod Pushing
pub mod Executing
pub mod Interning
pub mod Texts
pub mod Flattening
pub mod Meeting
pub mod Naming
