use Rattle.std.proofs.Common.{◌-◌}
use Rattle.jr_supers.specs.Above.{ListsTo}
use Rattle.jr_supers.proofs.above.push_above.Given as goal

abbrev pub invariant-loop-turn : goal.invariant-loop-turn
invariant-loop-turn l = ListsTo l.links l.pairs l.at l.fn.all.items (l.turns - l._turn) l.up l.all.items
