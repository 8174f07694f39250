pub mod Carrying
pub mod Answering
pub mod Prefixes
pub mod Consequences
pub mod EchoLines
pub mod Starting
