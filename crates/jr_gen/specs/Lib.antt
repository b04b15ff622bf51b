pub mod Requests
pub mod Workspace
