pub mod Listed
pub mod Calls
pub mod Called
pub mod Reports
pub mod Calling
