pub mod Values
pub mod Tables
pub mod Known
pub mod Resting
