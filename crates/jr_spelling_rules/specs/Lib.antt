pub mod Naming
pub mod Behind
pub mod Candidates
pub mod Fitting
pub mod Spelling
