use Rattle.std.proofs.Common.{false, ◌-◌}
use Rattle.std.specs.Prelude.{replicate}
use Rattle.jr_locks.specs.Origins.{run, down}
use Rattle.jr_locks.specs.Adding.{Adds}
use Rattle.jr_locks.proofs.origins.Origins.push_copies.Given as goal

abbrev pub invariant-loop-at : goal.invariant-loop-at
invariant-loop-at l = Adds l.fn.self l.self (run l.first (l.at - l.first)) (replicate (l.at - l.first) false) (down (l.end - l.first) (l.at - l.first))
