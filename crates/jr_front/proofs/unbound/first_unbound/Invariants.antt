use Rattle.jr_defs.specs.Referents.{entries}
use Rattle.jr_front.proofs.Losing.{AreSeen}
use Rattle.jr_front.proofs.unbound.first_unbound.Given as goal

abbrev pub invariant-loop-at : goal.invariant-loop-at
invariant-loop-at l = AreSeen l.marks (entries l.table) l.at l.first
