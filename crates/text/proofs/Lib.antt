-- `Pasting` has the laws of writings one after the other, `Decimals` those of numbers in decimal, `NumberLines` those of their lines, and `Escapes` those of bytes with escapes, for
-- the proofs of this crate and of the crates that link it.
pub mod Pasting
pub mod Decimals
pub mod NumberLines
pub mod Escapes
