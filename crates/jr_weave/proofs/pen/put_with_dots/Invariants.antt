use Rattle.std.proofs.Common.{◌≡◌, ◌≤◌, ◌++◌, drop, length}
use Rattle.jr_weave.specs.Wording.{with_dots}
use Rattle.jr_weave.proofs.pen.put_with_dots.Given as goal

abbrev pub decreases-loop-at : goal.decreases-loop-at
decreases-loop-at l = l.at

abbrev pub invariant-loop-at : goal.invariant-loop-at
invariant-loop-at l = (l.text.items ≡ l.fn.text.items ++ with_dots l.rows (drop l.at l.names)) × (l.at ≤ length l.names)
