pub mod Stacked
pub mod Cores
pub mod Laws
