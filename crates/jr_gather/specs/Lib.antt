pub mod Gathering
pub mod Piles
