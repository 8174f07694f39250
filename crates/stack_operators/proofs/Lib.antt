pub mod Named
pub mod Tops
pub mod Counted
pub mod Doubling
pub mod Reversing
pub mod Returns
pub mod Scalars
