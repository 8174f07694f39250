pub mod Rows
pub mod Setting
pub mod Errors
