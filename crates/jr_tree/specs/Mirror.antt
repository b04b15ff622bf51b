-- The trees as plain data: every definition on syntax goes by its cases.
pub mod Exprs
pub mod Stmts
pub mod Decls
