-- What the contracts of this crate say: how its answers are read in the definition's terms.
pub mod Skips
pub mod Lexing
pub mod Reading
