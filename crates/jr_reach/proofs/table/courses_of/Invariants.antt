use Rattle.std.proofs.Common.{◌≡◌}
use Rattle.jr_reach.specs.Statements.{entries}
use Rattle.jr_reach.proofs.table.courses_of.Given as goal

abbrev pub invariant-loop-done : goal.invariant-loop-done
invariant-loop-done l = l.all.items ≡ entries l.rows l.facts l.done
