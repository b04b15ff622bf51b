pub mod Seen
pub mod Casts
pub mod Typed
