pub mod Placing
pub mod Holding
