-- The laws that the proofs of the functions cite.
pub mod Acting
pub mod Choosing
pub mod Stepping
pub mod Running
