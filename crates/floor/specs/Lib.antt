pub mod Floor
pub mod Promise
pub mod Examples
