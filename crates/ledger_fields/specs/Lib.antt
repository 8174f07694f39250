pub mod Fields
pub mod SeenLaws
