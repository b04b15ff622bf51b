use Rattle.std.proofs.Common.{◌≡◌, ℕ, ◌<◌, false}
use Rattle.std.specs.List.{slice_get}
use Rattle.jr_extract.specs.Running.{ends_behind}
use Rattle.jr_extract.proofs.run.count_before.Given as goal

abbrev pub invariant-loop-at : goal.invariant-loop-at
invariant-loop-at l = (k : ℕ) → k < l.at → ends_behind l.offset (slice_get l.tokens k) ≡ false
