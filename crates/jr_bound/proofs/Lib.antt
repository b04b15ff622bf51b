pub mod Joined
pub mod Ruled
