pub mod Candidates
pub mod Faults
pub mod Items
pub mod Laws
pub mod Texts
