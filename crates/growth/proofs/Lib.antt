pub mod Kinding
pub mod Logs
pub mod OutcomeFits
pub mod RunHandlers
pub mod RunMarks
pub mod RunStore
pub mod StepGrowth
pub mod StepStore
