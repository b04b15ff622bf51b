pub mod Finding
pub mod Answering
