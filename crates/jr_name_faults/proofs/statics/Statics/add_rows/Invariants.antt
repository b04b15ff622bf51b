use Rattle.jr_members.specs.declared.members.World.{World}
use Rattle.jr_name_faults.specs.Statics.{AreStaticsTo}
use Rattle.jr_name_faults.proofs.statics.Statics.add_rows.Given as goal

abbrev pub invariant-loop-at : goal.invariant-loop-at
invariant-loop-at l = (world : World) → AreStaticsTo world 0 l.fn.self → AreStaticsTo world l.at l.self
