pub mod Shapes
pub mod Named
pub mod Connectives
