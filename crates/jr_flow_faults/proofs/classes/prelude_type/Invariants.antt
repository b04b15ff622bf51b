use Rattle.std.proofs.Common.{◌≡◌, None}
use Rattle.jr_plain.specs.Search.{first_below}
use Rattle.jr_plain.specs.Declarations.{is_prelude}
use Rattle.jr_flow_faults.proofs.classes.prelude_type.Given as goal

abbrev pub invariant-loop-at : goal.invariant-loop-at
invariant-loop-at l = first_below l.at (is_prelude l.rows l.name) ≡ None
