pub mod Courses
pub mod Plain
pub mod Statements
pub mod Reached
pub mod Faults
