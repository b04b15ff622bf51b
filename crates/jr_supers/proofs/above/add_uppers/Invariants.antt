use Rattle.std.proofs.Common.{◌≡◌, drop}
use Rattle.jr_supers.specs.Found.{with_items}
use Rattle.jr_supers.specs.Above.{with_uppers}
use Rattle.jr_supers.proofs.above.add_uppers.Given as goal

abbrev pub invariant-loop-over : goal.invariant-loop-over
invariant-loop-over l = with_items l.all (drop l.over-index l.over-items) ≡ with_items l.fn.all (with_uppers l.pairs l.at)
