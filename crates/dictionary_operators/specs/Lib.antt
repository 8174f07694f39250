pub mod Promises
pub mod Binding
pub mod Interning
