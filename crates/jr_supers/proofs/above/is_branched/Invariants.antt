use Rattle.std.proofs.Common.{◌-◌}
use Rattle.jr_supers.specs.Above.{BranchesTo}
use Rattle.jr_supers.proofs.above.is_branched.Given as goal

abbrev pub invariant-loop-turn : goal.invariant-loop-turn
invariant-loop-turn l = BranchesTo l.links l.pairs l.fn.low l.over (l.turns - l._turn) l.branching
