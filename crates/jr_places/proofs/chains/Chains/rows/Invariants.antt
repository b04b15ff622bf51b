use Rattle.jr_places.specs.Chains.{WalkedTo, places_to}
use Rattle.jr_places.proofs.chains.Chains.rows.Given as goal

abbrev pub invariant-loop-at : goal.invariant-loop-at
invariant-loop-at l = WalkedTo l.self l.first l.second l.at l.rows.items

abbrev pub decreases-loop-at : goal.decreases-loop-at
decreases-loop-at l = places_to l.at
