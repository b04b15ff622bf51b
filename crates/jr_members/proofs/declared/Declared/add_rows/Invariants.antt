use Rattle.jr_places.specs.Places.{ArePlaces}
use Rattle.jr_members.specs.declared.declared.MemberKind.{MemberKind}
use Rattle.jr_members.specs.Keys.{IsDeclaredTo}
use Rattle.jr_members.proofs.declared.Declared.add_rows.Given as goal

abbrev pub invariant-loop-at : goal.invariant-loop-at
invariant-loop-at l = (kind : MemberKind) → ArePlaces l.under.rows.now l.under.places.now → IsDeclaredTo l.under.rows.now kind 0 l.fn.self → IsDeclaredTo l.under.rows.now kind l.at l.self
