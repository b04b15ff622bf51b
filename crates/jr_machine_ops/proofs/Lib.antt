pub mod SlotLemmas
pub mod Levels
pub mod Taking
pub mod Joining
pub mod Counting
pub mod Indexing
pub mod Entering
