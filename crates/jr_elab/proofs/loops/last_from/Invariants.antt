use Rattle.jr_codes.specs.Reads.{facts}
use Rattle.jr_elab.proofs.Looped.{LastSo}
use Rattle.jr_elab.proofs.loops.last_from.Given as goal

abbrev pub invariant-loop-turn : goal.invariant-loop-turn
invariant-loop-turn l = LastSo (facts l.source) l.from l.end l._turn l.child
