use Rattle.std.proofs.Common.{◌≡◌, ℕ, ◌<◌, false, ◌&&◌, nat_le}
use Rattle.jr_tree.specs.Rows.{label}
use Rattle.jr_extract.specs.Running.{calls_constructor}
use Rattle.jr_extract.proofs.run.constructor_call.Given as goal

abbrev pub invariant-loop-at : goal.invariant-loop-at
invariant-loop-at l = (k : ℕ) → k < l.at → (nat_le l.fn.range.first k && calls_constructor (label l.rows k)) ≡ false
