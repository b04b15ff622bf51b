pub mod Counting
pub mod CountedExprs
pub mod CountedStmts
pub mod CountedDecls
pub mod Before
