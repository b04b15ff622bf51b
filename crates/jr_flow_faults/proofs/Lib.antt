mod Innermost
mod Parts
mod Gathering
pub mod Known
pub mod Kept
mod Exceptions
pub mod Rooted
pub mod Covered
pub mod Outward
pub mod Guarded
pub mod Followed
pub mod Letting
pub mod Uncaught
pub mod Arriving
pub mod Noted
mod Readings
mod Leaving
mod Added
