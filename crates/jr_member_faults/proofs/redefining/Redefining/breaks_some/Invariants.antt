use Rattle.std.proofs.Common.{◌≡◌, ℕ, drop}
use Rattle.std.specs.List.{list_any}
use Rattle.jr_tree.specs.declared.label.Role.TheVariants as roles
use Rattle.jr_tree.specs.Rows.{role_at}
use Rattle.jr_members.specs.declared.declared.MemberKind.TheVariants as kinds
use Rattle.jr_members.specs.Sources.{AreOfKind}
use Rattle.jr_member_faults.specs.Nearest.{breaks_same}
use Rattle.jr_member_faults.specs.Thrown.{AreThrown}
use Rattle.jr_member_faults.specs.Views.{rows_of, table_of, IsRightWorld}
use Rattle.jr_member_faults.proofs.redefining.Redefining.breaks_some.Given as goal

abbrev pub invariant-loop-other : goal.invariant-loop-other
invariant-loop-other l = IsRightWorld l.self.world.now → AreThrown (rows_of l.self.world.now) l.self.thrown.now → role_at (rows_of l.self.world.now) l.method ≡ roles.Method → AreOfKind (rows_of l.self.world.now) kinds.Method l.all
    → list_any (λ (k : ℕ). breaks_same (rows_of l.self.world.now) (table_of l.self.world.now) l.method k) (drop l.other-index l.all) ≡ list_any (λ (k : ℕ). breaks_same (rows_of l.self.world.now) (table_of l.self.world.now) l.method k) l.all
