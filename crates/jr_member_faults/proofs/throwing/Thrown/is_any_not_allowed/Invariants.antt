use Rattle.std.proofs.Common.{◌≡◌, ℕ, drop}
use Rattle.std.specs.List.{list_any}
use Rattle.jr_tree.specs.declared.label.Role.TheVariants as roles
use Rattle.jr_tree.specs.Rows.{role_at}
use Rattle.jr_member_faults.specs.Thrown.{AreThrown, is_name_not_allowed}
use Rattle.jr_member_faults.specs.Views.{rows_of, table_of, IsRightWorld}
use Rattle.jr_member_faults.proofs.throwing.Thrown.is_any_not_allowed.Given as goal

abbrev pub invariant-loop-name : goal.invariant-loop-name
invariant-loop-name l = IsRightWorld l.world → AreThrown (rows_of l.world) l.self → role_at (rows_of l.world) l.method ≡ roles.Method → list_any (λ (n : ℕ). is_name_not_allowed (rows_of l.world) (table_of l.world) l.method n) (drop l.name-index l.names) ≡ list_any (λ (n : ℕ). is_name_not_allowed (rows_of l.world) (table_of l.world) l.method n) l.names
