use Rattle.std.proofs.Common.{drop}
use Rattle.jr_members.specs.Gathered.{IsAddingUp}
use Rattle.jr_member_faults.specs.Views.{rows_of, table_of, IsRightWorld}
use Rattle.jr_member_faults.proofs.names.push_further.Given as goal

abbrev pub invariant-loop-from : goal.invariant-loop-from
invariant-loop-from l = IsRightWorld l.world → IsAddingUp (rows_of l.world) (table_of l.world) l.linked l.direct l.fn.all.items l.all.items (drop l.from-index l.direct)
