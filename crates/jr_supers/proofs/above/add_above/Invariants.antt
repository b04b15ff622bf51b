use Rattle.std.proofs.Common.{◌-◌}
use Rattle.jr_supers.specs.Above.{AddsTo}
use Rattle.jr_supers.proofs.above.add_above.Given as goal

abbrev pub invariant-loop-turn : goal.invariant-loop-turn
invariant-loop-turn l = AddsTo l.links l.pairs l.at l.fn.all (l.turns - l._turn) l.up l.all
