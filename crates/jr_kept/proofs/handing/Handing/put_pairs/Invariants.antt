use Rattle.jr_kept.specs.Handed.{AddsPairs, ArePairedOnce, PutsPairs}
use Rattle.jr_kept.proofs.handing.Handing.put_pairs.Given as goal

abbrev pub invariant-loop-place : goal.invariant-loop-place
invariant-loop-place l = AddsPairs l.fn.self l.self l.definitions l.uses × (ArePairedOnce l.definitions l.uses → PutsPairs l.fn.self l.self l.definitions l.uses l.place)
