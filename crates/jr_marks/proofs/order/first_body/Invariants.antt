use Rattle.std.proofs.Common.{◌≡◌, ℕ, ◌<◌, false, ◌&&◌, nat_lt}
use Rattle.jr_tree.specs.Rows.{label}
use Rattle.jr_plain.specs.Enclosing.{is_body}
use Rattle.jr_marks.proofs.order.first_body.Given as goal

abbrev pub invariant-loop-at : goal.invariant-loop-at
invariant-loop-at l = (k : ℕ) → k < l.at → (nat_lt l.class k && is_body (label l.rows k)) ≡ false
