use Rattle.std.proofs.Common.{◌≡◌, ◌++◌, ◌-◌}
use Rattle.jr_plain.specs.Search.{gathered}
use Rattle.jr_marks.specs.Order.{itself}
use Rattle.jr_marks.proofs.order.push_name.Given as goal

abbrev pub invariant-loop-back : goal.invariant-loop-back
invariant-loop-back l = l.all.items ≡ l.fn.all.items ++ gathered l.back (λ back. itself l.rows (l.end - back - 1))
