mod Kept
mod Listing
mod Putting
mod Recording
mod Replaying
