pub mod Names
pub mod Calls
pub mod Expressions
pub mod Passing
pub mod Statements
pub mod Stacks
pub mod Bodies
