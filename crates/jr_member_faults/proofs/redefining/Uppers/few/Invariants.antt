use Rattle.jr_places.specs.Chains.{WalkedTo, places_to}
use Rattle.jr_member_faults.proofs.redefining.Uppers.few.Given as goal

abbrev pub invariant-loop-at : goal.invariant-loop-at
invariant-loop-at l = WalkedTo l.self.signed l.number 0 l.at l.all.items

abbrev pub decreases-loop-at : goal.decreases-loop-at
decreases-loop-at l = places_to l.at
