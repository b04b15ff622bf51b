pub mod Passing
pub mod Follow
