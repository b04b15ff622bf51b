use Rattle.std.proofs.Common.{drop}
use Rattle.jr_member_faults.specs.Descent.{IsOpening}
use Rattle.jr_member_faults.specs.Views.{IsRightWorld}
use Rattle.jr_member_faults.proofs.descent.open_each.Given as goal

abbrev pub invariant-loop-over : goal.invariant-loop-over
invariant-loop-over l = IsRightWorld l.world → IsOpening l.world l.at l.direct l.fn.packages l.packages (drop l.over-index l.direct)
