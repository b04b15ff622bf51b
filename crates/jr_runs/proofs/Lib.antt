pub mod Numbered
pub mod Chains
pub mod Runs
pub mod Whole
pub mod Locking
pub mod Firsts
pub mod Casts
pub mod Modifiers
