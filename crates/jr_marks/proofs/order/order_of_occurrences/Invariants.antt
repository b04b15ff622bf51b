use Rattle.std.proofs.Common.{◌≡◌}
use Rattle.jr_plain.specs.Search.{gathered}
use Rattle.jr_marks.specs.Order.{turn}
use Rattle.jr_marks.proofs.order.order_of_occurrences.Given as goal

abbrev pub invariant-loop-at : goal.invariant-loop-at
invariant-loop-at l = l.all.items ≡ gathered l.at (turn l.rows)
