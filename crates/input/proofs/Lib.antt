-- For the programs: what is written of what was read.
pub mod Telling
