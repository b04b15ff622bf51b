use Rattle.jr_kept.specs.Handed.{HasAssigned}
use Rattle.jr_kept.proofs.handing.Handing.has_assigned.Given as goal

abbrev pub invariant-loop-number : goal.invariant-loop-number
invariant-loop-number l = HasAssigned l.self l.points l.range.first l.range.end l.from l.number
