use Rattle.std.proofs.Common.{◌-◌}
use Rattle.jr_marks.proofs.Cuts.{TokensHalved}
use Rattle.jr_marks.proofs.searching.count_before.Given as goal

abbrev pub invariant-loop-low : goal.invariant-loop-low
invariant-loop-low l = TokensHalved l.tokens l.offset l.low l.high

abbrev pub decreases-loop-low : goal.decreases-loop-low
decreases-loop-low l = l.high - l.low
