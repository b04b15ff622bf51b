use Rattle.std.proofs.Common.{◌≡◌, drop}
use Rattle.jr_tree.specs.declared.label.Role.TheVariants as role
use Rattle.jr_tree.specs.Rows.{role_at}
use Rattle.jr_defs.specs.Enclosing.{DeclaredIn}
use Rattle.jr_supers.specs.Supers.{ListsOnce}
use Rattle.jr_dispatch.specs.Methods.{IsWholeWorld}
use Rattle.jr_report.specs.Called.{AreOfName, IsGathering}
use Rattle.jr_report.specs.Listed.{IsSubtypeOf, rows_in, table_in}
use Rattle.jr_report.proofs.called.stamp_found.Given as goal

abbrev pub invariant-loop-other : goal.invariant-loop-other
invariant-loop-other l = IsWholeWorld (table_in l.world) l.world → DeclaredIn (rows_in l.world) l.declaring l.method → ListsOnce l.below (IsSubtypeOf (rows_in l.world) (table_in l.world) l.declaring)
    → role_at (rows_in l.world) l.method ≡ role.Method → AreOfName (rows_in l.world) l.method l.others → IsGathering (rows_in l.world) (table_in l.world) l.method l.fn.called l.others
    → IsGathering (rows_in l.world) (table_in l.world) l.method l.called (drop l.other-index l.others)
