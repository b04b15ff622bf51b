use Rattle.jr_type_facts.specs.Rounds.{AreRoundsTo}
use Rattle.jr_type_facts.proofs.rounds.walk_all.Given as goal

abbrev pub invariant-loop-at : goal.invariant-loop-at
invariant-loop-at l = AreRoundsTo l.called 0 l.fn.met.items l.fn.rounds.items → AreRoundsTo l.called l.at l.met.items l.rounds.items
