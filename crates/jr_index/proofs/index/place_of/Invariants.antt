use Rattle.std.proofs.Common.{◌≤◌, ◌<◌, ◌-◌}
use Rattle.std.proofs.Math.ListN.{get_or}
use Rattle.jr_index.proofs.index.place_of.Given as goal

abbrev pub invariant-loop-high : goal.invariant-loop-high
invariant-loop-high l = (l.from ≤ l.low) × (l.low < l.high) × (l.high ≤ l.to) × (get_or l.numbers l.low 0 ≤ l.number) × (l.number < get_or l.numbers l.high 0)

abbrev pub decreases-loop-high : goal.decreases-loop-high
decreases-loop-high l = l.high - l.low
