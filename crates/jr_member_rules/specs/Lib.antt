pub mod Redefining
pub mod Throwing
pub mod Inheriting
pub mod Bodies
pub mod Inner
pub mod Computed
