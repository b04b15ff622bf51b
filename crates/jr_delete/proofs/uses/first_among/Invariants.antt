use Rattle.std.proofs.Common.{◌≡◌, ℕ, ◌<◌, false, get_or}
use Rattle.jr_delete.specs.Deleting.{is_use}
use Rattle.jr_delete.proofs.uses.first_among.Given as goal

abbrev pub invariant-loop-at : goal.invariant-loop-at
invariant-loop-at l = (k : ℕ) → k < l.at-index → is_use l.old l.range (get_or l.order k 0) ≡ false
