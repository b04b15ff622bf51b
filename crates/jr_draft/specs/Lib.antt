pub mod Drafting
pub mod Asking
pub mod Packages
pub mod Ordering
pub mod Parting
