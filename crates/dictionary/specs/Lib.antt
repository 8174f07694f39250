pub mod Names
pub mod Listing
pub mod Packing
pub mod Bindings
