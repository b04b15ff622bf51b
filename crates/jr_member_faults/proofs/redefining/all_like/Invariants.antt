use Rattle.std.proofs.Common.{◌≡◌, ◌++◌, drop, flat_map}
use Rattle.jr_tree.specs.declared.label.Role.TheVariants as role
use Rattle.jr_tree.specs.Rows.{role_at}
use Rattle.jr_dispatch.specs.Families.{declared_like}
use Rattle.jr_member_faults.specs.Views.{rows_of, table_of, IsRightWorld}
use Rattle.jr_member_faults.proofs.redefining.all_like.Given as goal

abbrev pub invariant-loop-over : goal.invariant-loop-over
invariant-loop-over l = IsRightWorld l.world → role_at (rows_of l.world) l.method ≡ role.Method
    → l.all.items ++ flat_map (declared_like (rows_of l.world) (table_of l.world) l.method) (drop l.over-index l.overs) ≡ flat_map (declared_like (rows_of l.world) (table_of l.world) l.method) l.overs
