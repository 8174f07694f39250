pub mod Values
pub mod Tops
