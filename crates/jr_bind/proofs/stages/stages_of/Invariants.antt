use Rattle.jr_bind.specs.Late.{AreLateTo}
use Rattle.jr_bind.proofs.stages.stages_of.Given as goal

abbrev pub invariant-loop-at : goal.invariant-loop-at
invariant-loop-at l = AreLateTo l.rows l.stages.items l.at
