pub mod Shifted
pub mod Nested
