mod Readings
pub mod Limits
