mod Valued
pub mod Values
mod Headed
mod Doubled
mod Passed
pub mod Told
mod Constructed
mod Inside
mod Tables
mod Topped
mod Looped
mod Entries
mod Overridden
mod Chained
mod Reached
mod Descending
mod Nearing
mod Checked
mod Opened
mod Lefts
mod Named
mod Abstracts
mod Settled
mod Placed
mod Methodical
