-- The laws that the proofs of the functions cite.
pub mod Ending
pub mod Taking
