use Rattle.std.proofs.Common.{◌≡◌, ◌++◌, drop}
use Rattle.jr_supers.specs.Order.{entering}
use Rattle.jr_supers.proofs.ordering.push_types.Given as goal

abbrev pub invariant-loop-at : goal.invariant-loop-at
invariant-loop-at l = l.waiting.items ++ entering l.rows (drop l.at-index l.all) ≡ l.fn.waiting.items ++ entering l.rows l.all
