pub mod Wording
pub mod Pieces
pub mod Weaving
