pub mod Shown
pub mod Traces
