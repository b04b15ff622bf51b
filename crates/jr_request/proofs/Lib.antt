pub mod Arity
pub mod Elements
pub mod Fields
pub mod Keys
pub mod One
pub mod Fronts
pub mod Answering
pub mod OneAnswer
