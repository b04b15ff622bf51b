-- The view as plain data is one to one and onto.
pub mod Faithful
pub mod Round
pub mod Exprs
pub mod Stmts
pub mod Decls
