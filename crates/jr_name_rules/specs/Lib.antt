pub mod Found
pub mod DeclarationTests
pub mod ImportTests
pub mod AccessTests
pub mod HeaderTests
pub mod Computed
