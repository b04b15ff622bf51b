use Rattle.std.proofs.Common.{drop}
use Rattle.jr_member_faults.specs.Descent.{AreOpening}
use Rattle.jr_member_faults.specs.Views.{IsRightWorld}
use Rattle.jr_member_faults.proofs.descent.open_all.Given as goal

abbrev pub invariant-loop-at : goal.invariant-loop-at
invariant-loop-at l = IsRightWorld l.world → AreOpening l.world l.order l.packages (drop l.at-index l.order)
