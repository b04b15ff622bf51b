use Rattle.jr_bind.specs.Filled.{FillsRows}
use Rattle.jr_bind.proofs.filling.Filling.fill.Given as goal

abbrev pub invariant-loop-at : goal.invariant-loop-at
invariant-loop-at l = FillsRows l.stages l.stage l.fn.self l.self
