pub mod Naming
pub mod Canonical
pub mod Searched
pub mod Started
pub mod Called
pub mod Reported
pub mod Ran
