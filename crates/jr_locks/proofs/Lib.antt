pub mod Told
pub mod Locked
pub mod Changing
pub mod Numbers
pub mod Adding
pub mod Standing
