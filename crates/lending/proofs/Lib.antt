pub mod Making
pub mod Starting
