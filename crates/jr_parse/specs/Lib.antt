pub mod Answers
pub mod Begun
pub mod Importing
pub mod Nests
