-- What the program prints.
pub mod Telling
