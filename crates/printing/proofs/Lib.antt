pub mod Headers
pub mod Letters
pub mod Spelling
pub mod Bytes
pub mod Marks
pub mod Sorts
pub mod Lists
pub mod Nesting
