pub mod Lists
pub mod Often
pub mod Occupying
pub mod Showing
pub mod Tracing
pub mod Reaching
