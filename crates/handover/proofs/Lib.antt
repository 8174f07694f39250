pub mod Passing
pub mod Knowing
pub mod Handing
