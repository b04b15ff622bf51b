use Rattle.std.proofs.Common.{◌≡◌, ℕ, drop}
use Rattle.std.specs.List.{list_any}
use Rattle.jr_member_faults.specs.Descent.{is_other_type}
use Rattle.jr_member_faults.proofs.descent.has_class.Given as goal

abbrev pub invariant-loop-over : goal.invariant-loop-over
invariant-loop-over l = list_any (λ (s : ℕ). is_other_type l.rows s) (drop l.over-index l.overs) ≡ list_any (λ (s : ℕ). is_other_type l.rows s) l.overs
