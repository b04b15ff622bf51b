use Rattle.std.proofs.Common.{◌≡◌, ℕ, drop}
use Rattle.std.specs.List.{list_any}
use Rattle.jr_plain.specs.Supertypes.{declaration, is_at_or_above}
use Rattle.jr_member_faults.specs.Views.{rows_of, table_of, IsRightWorld}
use Rattle.jr_member_faults.proofs.throwing.is_any_above.Given as goal

abbrev pub invariant-loop-name : goal.invariant-loop-name
invariant-loop-name l = IsRightWorld l.world → list_any (λ (n : ℕ). list_any (λ (s : ℕ). is_at_or_above (rows_of l.world) (table_of l.world) l.class s) (declaration (table_of l.world n))) (drop l.name-index l.names) ≡ list_any (λ (n : ℕ). list_any (λ (s : ℕ). is_at_or_above (rows_of l.world) (table_of l.world) l.class s) (declaration (table_of l.world n))) l.names
