pub mod Keys
pub mod Comparisons
pub mod Answers
