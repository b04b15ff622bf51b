use Rattle.jr_index.proofs.Nesting as nesting
use Rattle.jr_index.proofs.law.marks_are_within.Goals as goal

pub returns : goal.returns
returns c = nesting.marks_within
