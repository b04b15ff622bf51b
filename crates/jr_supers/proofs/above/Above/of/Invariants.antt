use Rattle.std.proofs.Common.{◌≡◌, drop}
use Rattle.jr_supers.specs.Above.{tables, no_tables, with_types}
use Rattle.jr_supers.proofs.above.Above.of.Given as goal

abbrev pub invariant-loop-at : goal.invariant-loop-at
invariant-loop-at l = with_types l.rows l.direct.supers (tables l.above) (drop l.at-index l.order) ≡ with_types l.rows l.direct.supers (no_tables l.rows) l.order
