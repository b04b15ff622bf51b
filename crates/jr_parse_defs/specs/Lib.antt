pub mod Begins
pub mod Stmts
pub mod Decls
pub mod Writing
pub mod Follow
pub mod Laws
