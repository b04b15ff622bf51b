use Rattle.std.proofs.Common.{◌≡◌, ℕ, drop}
use Rattle.std.specs.List.{list_any}
use Rattle.jr_member_faults.specs.Unfound.{has_abstract}
use Rattle.jr_member_faults.proofs.unfound.Unfound.has_some_abstract.Given as goal

abbrev pub invariant-loop-over : goal.invariant-loop-over
invariant-loop-over l = list_any (λ (s : ℕ). has_abstract l.self s) (drop l.over-index l.overs) ≡ list_any (λ (s : ℕ). has_abstract l.self s) l.overs
