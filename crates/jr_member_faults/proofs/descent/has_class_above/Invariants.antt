use Rattle.std.proofs.Common.{drop}
use Rattle.jr_member_faults.specs.Descent.{HasInterfacesAbove}
use Rattle.jr_member_faults.specs.Views.{rows_of, table_of, IsRightWorld}
use Rattle.jr_member_faults.proofs.Looped.{IsToldOf}
use Rattle.jr_member_faults.proofs.descent.has_class_above.Given as goal

abbrev pub invariant-loop-at : goal.invariant-loop-at
invariant-loop-at l = IsRightWorld l.world → IsToldOf l.order (drop l.at-index l.order) (HasInterfacesAbove (rows_of l.world) (table_of l.world))
