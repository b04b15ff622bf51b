pub mod Overridden
pub mod Methods
pub mod Dispatching
pub mod Families
