use Rattle.std.proofs.Common.{◌≡◌, ℕ, ◌<◌, true}
use Rattle.jr_bind.specs.Confirmed.{CanSeeTo, IsTypeBoundAt}
use Rattle.jr_bind.proofs.confirming.are_types_bound.Given as goal

abbrev pub invariant-loop-at : goal.invariant-loop-at
invariant-loop-at l = CanSeeTo l.sight l.end → l.are ≡ true → (n : ℕ) → n < l.at → IsTypeBoundAt l.sight n
