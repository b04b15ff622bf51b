pub mod Pairs
pub mod Found
pub mod Above
pub mod Direct
pub mod Order
pub mod Supers
pub mod Tabled
pub mod Signatures
