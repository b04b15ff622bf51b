use Rattle.std.proofs.Common.{◌≡◌, ℕ, ◌<◌, false, ◌&&◌, nat_le}
use Rattle.jr_marks.specs.Places.{is_named_by}
use Rattle.jr_marks.proofs.marks.Marks.first_named.Given as goal

abbrev pub invariant-loop-row : goal.invariant-loop-row
invariant-loop-row l = (k : ℕ) → k < l.row → (nat_le l.start k && is_named_by l.self l.token k) ≡ false
