use Rattle.jr_members.specs.Sources.{ArePlaced}
use Rattle.jr_lookup.specs.Scopes.{AreScopesTo, AreTopsTo}
use Rattle.jr_lookup.proofs.scopes.Scopes.add_rows.Given as goal

abbrev pub invariant-loop-at : goal.invariant-loop-at
invariant-loop-at l = (ArePlaced l.rows l.places → AreScopesTo l.rows 0 l.fn.self → AreScopesTo l.rows l.at l.self)
    × (ArePlaced l.rows l.places → AreTopsTo l.rows l.places 0 l.fn.self → AreTopsTo l.rows l.places l.at l.self)
