pub mod Casting
pub mod Strings
pub mod Operands
pub mod Values
pub mod Passing
