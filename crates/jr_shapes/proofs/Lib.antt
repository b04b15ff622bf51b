pub mod Qualifiers
pub mod Suffixes
pub mod Pushes
