pub mod Taking
pub mod Viewing
pub mod Running
