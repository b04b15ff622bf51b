use Rattle.std.proofs.Common.{◌≤◌}
use Rattle.jr_meaning.proofs.keeping.is_run.Given as goal

abbrev pub invariant-loop-at : goal.invariant-loop-at
invariant-loop-at l = l.range.first ≤ l.at
