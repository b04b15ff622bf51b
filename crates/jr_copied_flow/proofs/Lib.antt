mod Seen
mod Alone
mod Whole
mod Above
pub mod Kept
mod Segments
