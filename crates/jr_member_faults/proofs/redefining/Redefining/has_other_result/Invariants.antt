use Rattle.std.proofs.Common.{◌≡◌, ℕ, not, drop}
use Rattle.std.specs.List.{list_any}
use Rattle.jr_plain.specs.Overloads.{is_result_fit}
use Rattle.jr_member_faults.specs.Views.{rows_of, table_of, IsRightWorld}
use Rattle.jr_member_faults.proofs.redefining.Redefining.has_other_result.Given as goal

abbrev pub invariant-loop-other : goal.invariant-loop-other
invariant-loop-other l = IsRightWorld l.self.world.now → list_any (λ (k : ℕ). not (is_result_fit (rows_of l.self.world.now) (table_of l.self.world.now) l.method k)) (drop l.other-index l.redefined) ≡ list_any (λ (k : ℕ). not (is_result_fit (rows_of l.self.world.now) (table_of l.self.world.now) l.method k)) l.redefined
