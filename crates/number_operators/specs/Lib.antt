pub mod Pegs
pub mod Steps
