pub mod Parts
pub mod Arguments
pub mod Names
