pub mod EchoLaws
pub mod TokenLaws
pub mod GroupLaws
pub mod WhereLaws
pub mod RunLaws
pub mod PegLaws
pub mod HeldLaws
