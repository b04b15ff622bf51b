use Rattle.std.proofs.Common.{◌≡◌, ℕ, ◌<◌, false, ◌&&◌, nat_le}
use Rattle.jr_extract.specs.Running.{begins_statement}
use Rattle.jr_extract.proofs.run.statement_at.Given as goal

abbrev pub invariant-loop-at : goal.invariant-loop-at
invariant-loop-at l = (k : ℕ) → k < l.at → (nat_le l.top k && begins_statement l.marks l.token k) ≡ false
