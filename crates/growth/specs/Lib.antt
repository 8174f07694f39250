pub mod Growth
pub mod Stores
