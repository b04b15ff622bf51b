pub mod Same
pub mod Searched
pub mod Flowing
pub mod Checked
pub mod Numbered
pub mod Reaching
pub mod Copied
