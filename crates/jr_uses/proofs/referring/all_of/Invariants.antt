use Rattle.std.proofs.Common.{◌≡◌, ℕ}
use Rattle.jr_uses.specs.Referring.{rows_of, uses_below}
use Rattle.jr_uses.proofs.referring.all_of.Given as goal

abbrev pub invariant-loop-row : goal.invariant-loop-row
invariant-loop-row l = (d : ℕ) → rows_of l.uses d ≡ uses_below l.table d l.row
