pub mod Changed
pub mod Known
pub mod Finals
pub mod Faults
