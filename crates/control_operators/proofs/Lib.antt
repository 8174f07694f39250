pub mod Popping
pub mod Promising
pub mod Named
pub mod Entering
pub mod Choosing
pub mod Leaving
