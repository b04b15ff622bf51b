use Rattle.std.proofs.Common.{◌-◌}
use Rattle.jr_marks.proofs.Cuts.{Halved}
use Rattle.jr_marks.proofs.searching.count_up_to.Given as goal

abbrev pub invariant-loop-low : goal.invariant-loop-low
invariant-loop-low l = Halved l.numbers l.number l.low l.high

abbrev pub decreases-loop-low : goal.decreases-loop-low
decreases-loop-low l = l.high - l.low
