pub mod SearchLaws
pub mod SoundLaws
pub mod Finding
pub mod BookLaws
mod Entering
