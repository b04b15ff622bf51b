pub mod Counts
pub mod Depths
