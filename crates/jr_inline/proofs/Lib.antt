pub mod Stepping
pub mod Answering
pub mod Comparing
