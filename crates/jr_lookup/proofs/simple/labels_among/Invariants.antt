use Rattle.std.proofs.Common.{◌≡◌, ◌++◌, drop, filter}
use Rattle.jr_places.specs.Places.{ArePlaces}
use Rattle.jr_lookup.specs.Labels.{is_label_over}
use Rattle.jr_lookup.proofs.simple.labels_among.Given as goal

abbrev pub invariant-loop-at : goal.invariant-loop-at
invariant-loop-at l = ArePlaces l.under.rows.now l.under.places.now → l.found.items ++ filter (is_label_over l.under.rows.now l.place l.name) (drop l.at-index l.over) ≡ filter (is_label_over l.under.rows.now l.place l.name) l.over
