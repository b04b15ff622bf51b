pub mod Viewed
pub mod Takes
pub mod Begins
pub mod Rooms
