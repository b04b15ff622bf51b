pub mod Parts
pub mod Exprs
pub mod Stmts
pub mod Decls
