pub mod Finding
pub mod Raising
