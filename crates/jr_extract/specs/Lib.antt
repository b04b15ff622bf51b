pub mod Running
pub mod Writing
pub mod Handing
pub mod Throwing
pub mod Extracting
