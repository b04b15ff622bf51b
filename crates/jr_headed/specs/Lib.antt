pub mod Heads
pub mod Cycles
pub mod Founded
