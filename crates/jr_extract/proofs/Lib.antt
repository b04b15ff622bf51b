pub mod Adding
pub mod Counting
pub mod Found
pub mod Taking
pub mod Throws
pub mod Calling
pub mod Statements
pub mod Extending
