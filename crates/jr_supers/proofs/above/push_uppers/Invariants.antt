use Rattle.std.proofs.Common.{◌≡◌, ◌++◌, drop}
use Rattle.jr_supers.specs.Above.{with_uppers}
use Rattle.jr_supers.proofs.above.push_uppers.Given as goal

abbrev pub invariant-loop-over : goal.invariant-loop-over
invariant-loop-over l = l.all.items ++ drop l.over-index l.over-items ≡ l.fn.all.items ++ with_uppers l.pairs l.at
