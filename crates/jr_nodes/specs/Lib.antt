pub mod Seen
pub mod Progress
pub mod Subtree
