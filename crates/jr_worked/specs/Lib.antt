pub mod Tables
pub mod Locals
pub mod Fields
pub mod Imports
pub mod Calls
pub mod Creations
pub mod Constants
