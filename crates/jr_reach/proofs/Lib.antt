pub mod Tables
pub mod One
pub mod OneReached
