pub mod Importing
pub mod Renaming
pub mod Moving
