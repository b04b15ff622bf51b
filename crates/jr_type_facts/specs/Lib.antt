pub mod Views
pub mod Facts
pub mod Tables
pub mod Rounds
pub mod Cases
