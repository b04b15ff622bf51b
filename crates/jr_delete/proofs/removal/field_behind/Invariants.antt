use Rattle.std.proofs.Common.{◌≡◌, ℕ, ◌<◌, false, ◌&&◌, nat_lt}
use Rattle.jr_tree.specs.Rows.{parent}
use Rattle.jr_delete.specs.Deleting.{is_field_of}
use Rattle.jr_delete.proofs.removal.field_behind.Given as goal

abbrev pub invariant-loop-at : goal.invariant-loop-at
invariant-loop-at l = (k : ℕ) → k < l.at → (nat_lt l.field k && is_field_of l.rows (parent l.rows l.field) k) ≡ false
