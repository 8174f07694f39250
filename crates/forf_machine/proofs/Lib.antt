-- The laws that the proofs of the functions cite.
pub mod Slotting
pub mod Answering
pub mod Operating
pub mod Branching
pub mod Calculating
pub mod Naming
