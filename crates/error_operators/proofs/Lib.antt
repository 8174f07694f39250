pub mod Setting
pub mod Pushing
