pub mod Parsers
pub mod Viable
