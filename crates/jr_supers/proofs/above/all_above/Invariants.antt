use Rattle.std.proofs.Common.{◌≡◌, drop, []}
use Rattle.jr_supers.specs.Above.{with_all_above}
use Rattle.jr_supers.proofs.above.all_above.Given as goal

abbrev pub invariant-loop-low : goal.invariant-loop-low
invariant-loop-low l = with_all_above l.links l.pairs l.all (drop l.low-index l.lows) ≡ with_all_above l.links l.pairs [] l.lows
