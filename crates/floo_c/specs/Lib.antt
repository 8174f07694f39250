pub mod Reply
pub mod TokenReply
