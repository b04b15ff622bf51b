pub mod Programs
pub mod Headed
pub mod Placed
pub mod Walking
pub mod Founding
