pub mod Named
pub mod Paths
pub mod Together
pub mod Answers
pub mod Moved
pub mod Imported
