pub mod Intervals
