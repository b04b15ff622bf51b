use Rattle.jr_kept.specs.Handed.{AddsAssigned, PutsAssigned}
use Rattle.jr_kept.proofs.handing.Handing.put_assigned.Given as goal

abbrev pub invariant-loop-number : goal.invariant-loop-number
invariant-loop-number l = AddsAssigned l.fn.self l.self l.points l.range.first l.range.end l.from × PutsAssigned l.fn.self l.self l.points l.range.first l.range.end l.from l.number
