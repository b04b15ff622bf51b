use Rattle.std.proofs.Common.{◌≡◌, drop}
use Rattle.jr_defs.specs.Referents.{entries}
use Rattle.jr_runs.specs.Marks.{marks, marks_from, seen}
use Rattle.jr_runs.proofs.marking.Marking.of.Given as goal

abbrev pub invariant-loop-number : goal.invariant-loop-number
invariant-loop-number l = marks_from l.rows (entries l.table) l.number (drop l.number l.spellings) (seen l.all) ≡ marks l.rows (entries l.table) l.spellings
