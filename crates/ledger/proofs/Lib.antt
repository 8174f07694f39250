pub mod LineLaws
pub mod RoundTrip
pub mod BookLaws
pub mod SoundLaws
pub mod Fronts
