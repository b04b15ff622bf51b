pub mod Standing
pub mod StandingExprs
pub mod StandingStmts
pub mod StandingDecls
pub mod OfRows
