-- The laws that the proofs of the functions cite.
pub mod Counts
pub mod Skipping
pub mod Numbers
pub mod Lexemes
pub mod Readings
