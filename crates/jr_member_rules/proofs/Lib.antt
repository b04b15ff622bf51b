pub mod Redefined
pub mod Thrown
pub mod Inherited
pub mod Bodied
pub mod Inner
pub mod AllRules
pub mod Trees
pub mod Worked
