pub mod Planting
pub mod Inverting
pub mod Leaves
pub mod Opening
pub mod Turning
