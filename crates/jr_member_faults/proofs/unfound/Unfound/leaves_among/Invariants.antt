use Rattle.std.proofs.Common.{◌≡◌, ℕ, drop}
use Rattle.std.specs.List.{list_any}
use Rattle.jr_defs.specs.Declarations.{IsClass}
use Rattle.jr_member_faults.specs.Unfound.{AreAbstracts, leaves_at}
use Rattle.jr_member_faults.specs.Views.{rows_of, table_of, IsRightWorld}
use Rattle.jr_member_faults.proofs.unfound.Unfound.leaves_among.Given as goal

abbrev pub invariant-loop-over : goal.invariant-loop-over
invariant-loop-over l = IsRightWorld l.world → AreAbstracts (rows_of l.world) l.self.abstracts → IsClass (rows_of l.world) l.class → list_any (λ (s : ℕ). leaves_at (rows_of l.world) (table_of l.world) l.self.abstracts l.class s) (drop l.over-index l.overs) ≡ list_any (λ (s : ℕ). leaves_at (rows_of l.world) (table_of l.world) l.self.abstracts l.class s) l.overs
