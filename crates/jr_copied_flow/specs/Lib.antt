pub mod Alone
pub mod Segments
