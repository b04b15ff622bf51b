pub mod Lifting
pub mod Repackaging
