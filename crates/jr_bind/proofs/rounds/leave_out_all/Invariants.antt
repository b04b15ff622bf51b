use Rattle.std.proofs.Common.{ℕ}
use Rattle.jr_bind.specs.Rounds.{IsLeaving}
use Rattle.jr_bind.proofs.rounds.leave_out_all.Given as goal

abbrev pub invariant-loop-turn : goal.invariant-loop-turn
invariant-loop-turn l = (bound : ℕ) → IsLeaving l.edges bound l.fn.met l.fn.free.items l.fn.counts.items → IsLeaving l.edges bound l.met l.free.items l.counts.items
