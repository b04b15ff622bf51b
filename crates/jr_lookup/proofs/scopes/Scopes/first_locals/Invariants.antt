use Rattle.std.proofs.Common.{◌≡◌, ◌-◌}
use Rattle.jr_places.specs.Above.{above_to}
use Rattle.jr_lookup.specs.Locals.{first_with, locals_in, locals_at}
use Rattle.jr_lookup.specs.Scopes.{AreScopes}
use Rattle.jr_lookup.proofs.scopes.Scopes.first_locals.Given as goal

abbrev pub invariant-loop-turn : goal.invariant-loop-turn
invariant-loop-turn l = AreScopes l.rows l.self → first_with (locals_in l.rows l.name l.place) (above_to l.rows (l.place - l._turn) l.over) ≡ locals_at l.rows l.name l.place
