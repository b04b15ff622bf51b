use Rattle.std.proofs.Common.{◌≡◌}
use Rattle.jr_extract.specs.Writing.{behind_many}
use Rattle.jr_extract.proofs.rows.behind_many.Given as goal

abbrev pub invariant-loop-one : goal.invariant-loop-one
invariant-loop-one l = l.behind ≡ behind_many l.number l._one
