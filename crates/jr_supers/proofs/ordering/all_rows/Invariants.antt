use Rattle.std.proofs.Common.{◌≡◌}
use Rattle.jr_plain.specs.Search.{numbers}
use Rattle.jr_supers.proofs.ordering.all_rows.Given as goal

abbrev pub invariant-loop-at : goal.invariant-loop-at
invariant-loop-at l = l.all.items ≡ numbers l.at
