use Rattle.std.proofs.Common.{◌≡◌}
use Rattle.jr_places.specs.Units.{tops}
use Rattle.jr_places.proofs.units.tops_of.Given as goal

abbrev pub invariant-loop-at : goal.invariant-loop-at
invariant-loop-at l = l.all.items ≡ tops l.rows l.at
