-- How the definitions are to be read. IsRespelled (Respelled) is the last of them: it says that the rows of a program are a list of items, one by one. The list is data, a function of
-- the old rows, their locks and the spellings: Marks puts the spellings at their rows, Suits says when they may stand there, Forms gives the label of a row, Written the rows of a name, a
-- cast and `this`, and Plans the run of each row and all runs together. Labels serves the equality of labels alone.
pub mod Labels
pub mod Written
pub mod Marks
pub mod Forms
pub mod Plans
pub mod Planned
pub mod Suits
pub mod Respelled
pub mod Locked
