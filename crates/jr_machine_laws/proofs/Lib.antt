pub mod SameLaws
pub mod SameClasses
pub mod SamePlaces
pub mod SameFinishing
pub mod SameSteps
pub mod SameKeys
pub mod SameOrder
pub mod SameRenamed
