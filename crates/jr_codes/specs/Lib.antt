pub mod Facts
pub mod Making
pub mod Waiting
pub mod Conversions
pub mod Symbols
pub mod Reads
pub mod Numbered
