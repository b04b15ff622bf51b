pub mod Lang
pub mod Io
pub mod Begins
pub mod Laws
pub mod Numbers
