pub mod Names
pub mod Texts
pub mod Reports
pub mod Starting
pub mod Runs
