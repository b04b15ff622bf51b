use Rattle.std.proofs.Common.{ℕ}
use Rattle.jr_bind.specs.Rounds.{IsLeaving}
use Rattle.jr_bind.proofs.rounds.find_free.Given as goal

abbrev pub invariant-loop-place : goal.invariant-loop-place
invariant-loop-place l = (bound : ℕ) → IsLeaving l.edges bound l.fn.met l.fn.free.items l.counts → IsLeaving l.edges bound l.met l.free.items l.counts
