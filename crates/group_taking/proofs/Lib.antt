pub mod Constructing
pub mod Rooming
