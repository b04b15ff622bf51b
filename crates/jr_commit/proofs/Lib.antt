pub mod Moments
mod Told
mod Going
pub mod Putting
mod Fields
mod Texts
mod Loop
mod Exact
pub mod Olds
pub mod Phases
mod Run
mod Found
pub mod Back
mod Recovering
mod Merging
mod Planning
mod Values
pub mod Lengths
pub mod Undoing
pub mod Beginning
pub mod Returning
