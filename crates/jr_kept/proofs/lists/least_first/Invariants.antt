use Rattle.std.proofs.Common.{ℕ, ◌≤◌, take}
use Rattle.std.specs.List.{Contains}
use Rattle.jr_kept.proofs.lists.least_first.Given as goal

abbrev pub invariant-loop-number : goal.invariant-loop-number
invariant-loop-number l = (x : ℕ × ℕ) → Contains (take l.number-index l.pairs) x → l.least ≤ x.0
