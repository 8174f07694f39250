pub mod Promising
pub mod Naming
pub mod Returns
pub mod Elements
pub mod Loops
pub mod Converting
