use Rattle.std.proofs.Common.{◌≡◌, ℕ, drop}
use Rattle.std.specs.List.{list_any}
use Rattle.jr_member_faults.specs.Thrown.{AreThrown, is_other_class}
use Rattle.jr_member_faults.specs.Views.{rows_of, table_of, IsRightWorld}
use Rattle.jr_member_faults.proofs.throwing.Thrown.has_other_class.Given as goal

abbrev pub invariant-loop-name : goal.invariant-loop-name
invariant-loop-name l = IsRightWorld l.world → AreThrown (rows_of l.world) l.self → list_any (λ (n : ℕ). is_other_class (rows_of l.world) (table_of l.world) n) (drop l.name-index l.names) ≡ list_any (λ (n : ℕ). is_other_class (rows_of l.world) (table_of l.world) n) l.names
