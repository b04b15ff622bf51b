use Rattle.jr_kept.specs.Handed.{HasPairs}
use Rattle.jr_kept.proofs.handing.Handing.has_pairs.Given as goal

abbrev pub invariant-loop-place : goal.invariant-loop-place
invariant-loop-place l = HasPairs l.self l.definitions l.uses l.place
