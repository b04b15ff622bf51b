pub mod Empty
pub mod Tells
pub mod PartTests
pub mod ExprTests
pub mod StmtTests
pub mod DeclTests
