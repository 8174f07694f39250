pub mod Moving
pub mod Leaving
pub mod Splitting
pub mod Asking
pub mod Putting
pub mod Getting
pub mod Fresh
