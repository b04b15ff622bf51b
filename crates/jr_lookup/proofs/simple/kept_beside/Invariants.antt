use Rattle.std.proofs.Common.{◌≡◌, ◌++◌, drop, filter}
use Rattle.jr_tree.specs.Rows.{Rows}
use Rattle.jr_members.specs.Sources.{ArePlaced}
use Rattle.jr_lookup.specs.Sights.{is_kept_beside}
use Rattle.jr_lookup.proofs.simple.kept_beside.Given as goal

abbrev pub invariant-loop-at : goal.invariant-loop-at
invariant-loop-at l = (p : Rows) → ArePlaced p l.places → l.found.items ++ filter (is_kept_beside p l.place l.has_imported) (drop l.at-index l.types) ≡ filter (is_kept_beside p l.place l.has_imported) l.types
