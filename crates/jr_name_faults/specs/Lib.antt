pub mod Ends
pub mod Locals
pub mod Twins
pub mod Imports
pub mod Statics
pub mod Views
pub mod Faults
pub mod Canonical
