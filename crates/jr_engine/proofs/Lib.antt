pub mod Stepping
pub mod Beginning
pub mod Spelling
pub mod Small
pub mod Rising
pub mod Reading
pub mod Barring
