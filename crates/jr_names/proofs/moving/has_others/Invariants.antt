use Rattle.std.proofs.Common.{◌≡◌, ℕ, ◌<◌, false, ◌&&◌, nat_le}
use Rattle.jr_names.specs.Moving.{is_other_type}
use Rattle.jr_names.proofs.moving.has_others.Given as goal

abbrev pub invariant-loop-at : goal.invariant-loop-at
invariant-loop-at l = (k : ℕ) → k < l.at → (nat_le l.unit k && is_other_type l.rows l.moved k) ≡ false
