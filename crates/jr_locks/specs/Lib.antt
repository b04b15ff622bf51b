pub mod Origins
pub mod Locked
pub mod Ending
pub mod Copying
pub mod Changed
pub mod Copies
pub mod Adding
