-- The laws that the proofs of the functions cite.
pub mod Classes
pub mod Blanks
pub mod Digits
pub mod Escapes
pub mod Lexemes
pub mod Readings
