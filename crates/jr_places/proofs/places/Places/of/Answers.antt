use Rattle.std.proofs.Common.{◌∙◌}
use Rattle.jr_places.proofs.places.Places.of.Goals as goal

pub returns-clause-tables : goal.returns-clause-tables
returns-clause-tables c = record {
  names = c.in_ok-names.ensures;
  arounds_are = c.in_ok-arounds.ensures.by_parents;
  units_are = c.in_ok-units.ensures;
  tops_are = c.in_ok-tops.ensures;
  packages_are = λ local named. c.in_ok-packages.ensures (c.deref.ensures.value ∙ c.in_ok-names.ensures) local named;
}
