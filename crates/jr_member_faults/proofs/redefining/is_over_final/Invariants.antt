use Rattle.std.proofs.Common.{◌≡◌, ℕ, drop}
use Rattle.std.specs.List.{list_any}
use Rattle.jr_tree.specs.Rows.{label}
use Rattle.jr_defs.specs.Modifiers.{written}
use Rattle.jr_member_faults.specs.Views.{rows_of}
use Rattle.jr_member_faults.proofs.redefining.is_over_final.Given as goal

abbrev pub invariant-loop-other : goal.invariant-loop-other
invariant-loop-other l = list_any (λ (k : ℕ). (written (label (rows_of l.world) k)).is_final) (drop l.other-index l.redefined) ≡ list_any (λ (k : ℕ). (written (label (rows_of l.world) k)).is_final) l.redefined
