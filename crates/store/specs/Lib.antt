pub mod Rep
pub mod Matching
