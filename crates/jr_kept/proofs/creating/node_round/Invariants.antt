use Rattle.jr_kept.specs.Started.{IsRound}
use Rattle.jr_kept.proofs.creating.node_round.Given as goal

abbrev pub invariant-loop-turn : goal.invariant-loop-turn
invariant-loop-turn l = IsRound l.old.marks.rows.now l.at l.over
