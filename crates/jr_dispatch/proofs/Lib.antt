mod Overridden
pub mod Having
mod Leading
pub mod Overriding
mod Searching
mod Inheriting
mod Serving
mod Climbing
mod Descending
mod Ascending
mod Edging
mod Linking
pub mod Spreading
