use Rattle.std.proofs.Common.{◌-◌}
use Rattle.jr_supers.specs.Above.{ClimbsTo}
use Rattle.jr_supers.proofs.above.at_depth.Given as goal

abbrev pub invariant-loop-turn : goal.invariant-loop-turn
invariant-loop-turn l = ClimbsTo l.links l.at l.depth (l.turns - l._turn) l.here
