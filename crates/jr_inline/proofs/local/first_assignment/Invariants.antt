use Rattle.std.proofs.Common.{◌≡◌, ℕ, ◌<◌, false, ◌&&◌, nat_le}
use Rattle.jr_inline.specs.Inlinable.{assigns_to}
use Rattle.jr_inline.proofs.local.first_assignment.Given as goal

abbrev pub invariant-loop-at : goal.invariant-loop-at
invariant-loop-at l = (k : ℕ) → k < l.at → (nat_le l.first k && assigns_to l.rows l.table l.declared k) ≡ false
