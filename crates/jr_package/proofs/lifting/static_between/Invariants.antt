use Rattle.std.proofs.Common.{◌≡◌, ℕ, ◌<◌, false, ◌&&◌, nat_le}
use Rattle.jr_marks.specs.Places.{IsOrdered}
use Rattle.jr_package.specs.Lifting.{is_static_token}
use Rattle.jr_package.proofs.lifting.static_between.Given as goal

abbrev pub invariant-loop-token : goal.invariant-loop-token
invariant-loop-token l = IsOrdered l.marks → (k : ℕ) → k < l.token → (nat_le l.first k && is_static_token l.marks l.lifted k) ≡ false
