use Rattle.std.proofs.Common.{◌≡◌, ◌<◌, ◌≤◌, ◌-◌, ℕ, false, length}
use Rattle.std.specs.Prelude.{slice_index}
use Rattle.jr_base.specs.Gaps.{is_line_end}
use Rattle.jr_lex.proofs.gaps.line_comment.Given as goal

abbrev pub invariant-loop-end : goal.invariant-loop-end
invariant-loop-end l = (2 ≤ l.end) × (l.end ≤ length l.text) × ((k : ℕ) → 2 ≤ k → k < l.end → is_line_end (slice_index l.text k) ≡ false)

abbrev pub decreases-loop-end : goal.decreases-loop-end
decreases-loop-end l = length l.text - l.end
