-- What the contracts of this crate say: how its answers are read in the definition's terms.
pub mod Bytes
pub mod Numbers
pub mod Strings
pub mod Lexing
pub mod Reading
