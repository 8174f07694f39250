pub mod Moving
pub mod TokenSteps
pub mod FrameSteps
pub mod Finishing
