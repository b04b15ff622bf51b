pub mod Finding
pub mod Gathering
pub mod Listing
pub mod Referring
pub mod Seeking
pub mod Texts
