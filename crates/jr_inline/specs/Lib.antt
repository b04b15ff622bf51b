pub mod Inlinable
pub mod Removing
pub mod Forms
pub mod Inlining
pub mod Retyping
