pub mod Requested
pub mod Steps
pub mod Texts
pub mod Barring
pub mod Comparing
pub mod Written
pub mod Refusing
pub mod Planning
