use Rattle.std.proofs.Common.{ℕ, drop}
use Rattle.jr_places.specs.Stamps.{IsStamping}
use Rattle.jr_bind.specs.Rounds.{IsPutting}
use Rattle.jr_bind.proofs.rounds.put_all.Given as goal

abbrev pub invariant-loop-at : goal.invariant-loop-at
invariant-loop-at l = (bound : ℕ) → IsStamping l.fn.met bound → IsPutting bound l.all l.fn.met l.met l.fn.waiting.items l.waiting.items (drop l.at-index l.all)
