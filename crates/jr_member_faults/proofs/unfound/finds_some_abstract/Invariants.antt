use Rattle.std.proofs.Common.{◌≡◌, ℕ, drop}
use Rattle.std.specs.List.{list_any}
use Rattle.jr_defs.specs.Declarations.{IsClass}
use Rattle.jr_member_rules.specs.Inheriting.{finds_abstract}
use Rattle.jr_member_faults.specs.Unfound.{AreHad}
use Rattle.jr_member_faults.specs.Views.{rows_of, table_of, IsRightWorld}
use Rattle.jr_member_faults.proofs.unfound.finds_some_abstract.Given as goal

abbrev pub invariant-loop-method : goal.invariant-loop-method
invariant-loop-method l = IsRightWorld l.world → IsClass (rows_of l.world) l.class → AreHad (rows_of l.world) (table_of l.world) l.class l.methods → list_any (λ (m : ℕ). finds_abstract (rows_of l.world) (table_of l.world) l.class m) (drop l.method-index l.methods) ≡ list_any (λ (m : ℕ). finds_abstract (rows_of l.world) (table_of l.world) l.class m) l.methods
