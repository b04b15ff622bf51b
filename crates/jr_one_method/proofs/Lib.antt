pub mod Ordered
pub mod OfRows
