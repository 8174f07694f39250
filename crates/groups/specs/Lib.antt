pub mod Nodes
pub mod Parsing
