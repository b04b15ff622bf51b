use Rattle.std.proofs.Common.{◌≡◌, ℕ, ◌<◌, false, ◌&&◌, nat_le}
use Rattle.jr_inline.specs.Inlinable.{is_bare}
use Rattle.jr_inline.proofs.local.first_bare.Given as goal

abbrev pub invariant-loop-at : goal.invariant-loop-at
invariant-loop-at l = (k : ℕ) → k < l.at → (nat_le l.first k && is_bare l.rows k) ≡ false
