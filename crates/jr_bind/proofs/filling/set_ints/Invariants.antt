use Rattle.jr_bind.specs.Filled.{AreIntsTo}
use Rattle.jr_bind.proofs.filling.set_ints.Given as goal

abbrev pub invariant-loop-at : goal.invariant-loop-at
invariant-loop-at l = AreIntsTo l.constants l.initial.ints l.ints l.at
