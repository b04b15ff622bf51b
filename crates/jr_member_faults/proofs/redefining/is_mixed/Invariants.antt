use Rattle.std.proofs.Common.{◌≡◌, ℕ, drop}
use Rattle.std.specs.List.{list_any}
use Rattle.jr_member_faults.specs.Redefined.{are_mixed}
use Rattle.jr_member_faults.specs.Views.{rows_of}
use Rattle.jr_member_faults.proofs.redefining.is_mixed.Given as goal

abbrev pub invariant-loop-other : goal.invariant-loop-other
invariant-loop-other l = list_any (λ (k : ℕ). are_mixed (rows_of l.world) l.method k) (drop l.other-index l.redefined) ≡ list_any (λ (k : ℕ). are_mixed (rows_of l.world) l.method k) l.redefined
