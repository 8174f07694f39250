-- The laws that the proofs of the functions cite.
pub mod Resuming
pub mod Fitting
pub mod Looping
pub mod Procedures
