use Rattle.jr_bind.specs.Filled.{HoldsHeaders}
use Rattle.jr_bind.proofs.filling.headers_of.Given as goal

abbrev pub invariant-loop-at : goal.invariant-loop-at
invariant-loop-at l = HoldsHeaders l.stages l.table l.kept.items l.at
