pub mod Fronts
pub mod Folding
pub mod Numbering
