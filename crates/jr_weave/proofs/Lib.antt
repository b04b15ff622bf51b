pub mod Adding
pub mod Woven
