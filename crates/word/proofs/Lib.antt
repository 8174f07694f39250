-- What the proofs of several functions use.
pub mod Words
pub mod Signed
pub mod Division
pub mod Counts
pub mod Shifts
pub mod BitCounts
pub mod Ranges
