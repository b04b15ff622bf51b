use Rattle.std.proofs.Common.{drop}
use Rattle.jr_defs.specs.Referents.{Table}
use Rattle.jr_supers.specs.Supers.{AreSupersOf}
use Rattle.jr_members.specs.Gathered.{IsAddingUp}
use Rattle.jr_members.proofs.wanted.push_further.Given as goal

abbrev pub invariant-loop-from : goal.invariant-loop-from
invariant-loop-from l = (t : Table) → AreSupersOf l.rows t l.supers → IsAddingUp l.rows t l.linked l.direct l.fn.all.items l.all.items (drop l.from-index l.direct)
