pub mod Bindings
mod Mirrors
pub mod Formed
