pub mod Leading
pub mod Fitted
pub mod Spelled
pub mod Found
