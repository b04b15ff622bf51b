use Rattle.jr_defs.specs.Referents.{entries}
use Rattle.jr_runs.specs.Marks.{seen}
use Rattle.jr_runs.specs.Suits.{AllSuit}
use Rattle.jr_runs.proofs.suiting.first_unsuited.Given as goal

abbrev pub invariant-loop-number : goal.invariant-loop-number
invariant-loop-number l = AllSuit l.rows (entries l.table) (seen l.marks) l.spellings l.number
