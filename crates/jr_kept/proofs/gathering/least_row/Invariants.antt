use Rattle.jr_kept.specs.Gathered.{AreFrom}
use Rattle.jr_kept.proofs.gathering.least_row.Given as goal

abbrev pub invariant-loop-number : goal.invariant-loop-number
invariant-loop-number l = AreFrom l.points l.number l.least
