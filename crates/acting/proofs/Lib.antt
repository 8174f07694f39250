-- The laws that the proofs of the functions cite.
pub mod Before
pub mod Via
pub mod Executing
pub mod Choosing
