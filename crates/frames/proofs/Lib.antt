pub mod Frames
pub mod Entering
pub mod Slots
pub mod Pending
pub mod Resetting
pub mod Running
pub mod Undoing
