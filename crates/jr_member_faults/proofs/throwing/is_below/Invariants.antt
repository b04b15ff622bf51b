use Rattle.std.proofs.Common.{◌≡◌, ℕ, drop}
use Rattle.std.specs.List.{list_any}
use Rattle.jr_plain.specs.Supertypes.{is_at_or_above}
use Rattle.jr_member_faults.specs.Views.{rows_of, table_of, IsRightWorld}
use Rattle.jr_member_faults.proofs.throwing.is_below.Given as goal

abbrev pub invariant-loop-over : goal.invariant-loop-over
invariant-loop-over l = IsRightWorld l.world → list_any (λ (s : ℕ). is_at_or_above (rows_of l.world) (table_of l.world) l.class s) (drop l.over-index l.uppers) ≡ list_any (λ (s : ℕ). is_at_or_above (rows_of l.world) (table_of l.world) l.class s) l.uppers
