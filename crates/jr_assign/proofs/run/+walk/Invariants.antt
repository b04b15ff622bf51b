use Rattle.std.proofs.Common.{ℕ, ◌+◌, ◌*◌}
use Rattle.jr_assign.specs.Assigned.{Seen}
use Rattle.jr_assign.specs.Walked.{IsRun}
use Rattle.jr_assign.proofs.Walking.{IsUnderWay}
use Rattle.jr_assign.proofs.run.+walk.Given as goal

abbrev pub decreases-fill_parts : goal.decreases-fill_parts
decreases-fill_parts l = 2 * l.room + 1

abbrev pub decreases-run_on : goal.decreases-run_on
decreases-run_on l = 2 * l.room

abbrev pub invariant-run_on-loop-turn : goal.invariant-run_on-loop-turn
invariant-run_on-loop-turn l = (start : ℕ) (b : ℕ → Seen ℕ) (n : ℕ) → IsRun l.frame start b l.fn.seen.items n l.from l.to l.room
    → IsUnderWay l.frame start b l.fn.seen.items l.seen.items n l.from l.to l.at l._turn
