use Rattle.std.proofs.Common.{◌≡◌}
use Rattle.jr_places.specs.Units.{units}
use Rattle.jr_places.proofs.units.units_of.Given as goal

abbrev pub invariant-loop-at : goal.invariant-loop-at
invariant-loop-at l = l.all.items ≡ units l.rows l.at
