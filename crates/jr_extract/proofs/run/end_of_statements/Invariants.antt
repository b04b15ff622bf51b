use Rattle.std.proofs.Common.{◌≡◌, ◌-◌, length}
use Rattle.jr_marks.specs.Places.{IsOrdered}
use Rattle.jr_extract.specs.Running.{end_from, end_of_statements}
use Rattle.jr_extract.proofs.run.end_of_statements.Given as goal

abbrev pub invariant-loop-turn : goal.invariant-loop-turn
invariant-loop-turn l = IsOrdered l.marks → end_from l.marks l.block l.token (length l.marks.rows.now - l._turn) l.at ≡ end_of_statements l.marks l.first l.token
