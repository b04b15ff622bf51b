use Rattle.std.proofs.Common.{◌≡◌, drop}
use Rattle.jr_tree.specs.declared.label.Role.TheVariants as roles
use Rattle.jr_tree.specs.Rows.{role_at}
use Rattle.jr_member_faults.specs.Nearest.{KeepsAt}
use Rattle.jr_member_faults.specs.Thrown.{AreThrown}
use Rattle.jr_member_faults.specs.Views.{rows_of, table_of, IsRightWorld}
use Rattle.jr_member_faults.proofs.Looped.{IsToldOf}
use Rattle.jr_member_faults.proofs.redefining.Redefining.breaks_at_some.Given as goal

abbrev pub invariant-loop-over : goal.invariant-loop-over
invariant-loop-over l = IsRightWorld l.self.world.now → AreThrown (rows_of l.self.world.now) l.self.thrown.now → role_at (rows_of l.self.world.now) l.method ≡ roles.Method
    → IsToldOf l.overs (drop l.over-index l.overs) (KeepsAt (rows_of l.self.world.now) (table_of l.self.world.now) l.method)
