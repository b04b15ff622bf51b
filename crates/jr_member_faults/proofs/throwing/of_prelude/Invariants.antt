use Rattle.std.proofs.Common.{◌≡◌}
use Rattle.jr_plain.specs.Declarations.{is_prelude}
use Rattle.jr_plain.specs.Search.{all_such}
use Rattle.jr_member_faults.proofs.throwing.of_prelude.Given as goal

abbrev pub invariant-loop-at : goal.invariant-loop-at
invariant-loop-at l = l.all.items ≡ all_such l.at (is_prelude l.rows l.name)
