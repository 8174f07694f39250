pub mod Books
pub mod Fates
pub mod SearchLaws
pub mod BookLaws
pub mod Examples
