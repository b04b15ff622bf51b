use Rattle.std.proofs.Common.{◌≡◌, ℕ, drop}
use Rattle.std.specs.List.{list_any}
use Rattle.jr_member_rules.specs.Redefining.{is_narrower}
use Rattle.jr_member_faults.specs.Views.{rows_of}
use Rattle.jr_member_faults.proofs.redefining.is_narrowed.Given as goal

abbrev pub invariant-loop-other : goal.invariant-loop-other
invariant-loop-other l = list_any (λ (k : ℕ). is_narrower (rows_of l.world) l.method k) (drop l.other-index l.redefined) ≡ list_any (λ (k : ℕ). is_narrower (rows_of l.world) l.method k) l.redefined
