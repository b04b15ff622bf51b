use Rattle.std.proofs.Common.{◌≡◌, ◌<◌, ◌≤◌, ◌-◌, ℕ, false, length}
use Rattle.jr_base.specs.Gaps.{closes_comment}
use Rattle.jr_lex.proofs.gaps.block_comment.Given as goal

abbrev pub invariant-loop-at : goal.invariant-loop-at
invariant-loop-at l = (2 ≤ l.at) × (l.at ≤ length l.text) × ((k : ℕ) → 2 ≤ k → k < l.at → closes_comment l.text k ≡ false)

abbrev pub decreases-loop-at : goal.decreases-loop-at
decreases-loop-at l = length l.text - l.at
