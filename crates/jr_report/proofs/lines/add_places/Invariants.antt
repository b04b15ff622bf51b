use Rattle.std.proofs.Common.{◌≡◌, ◌++◌, drop, flat_map}
use Rattle.jr_report.specs.Reports.{place_line}
use Rattle.jr_report.proofs.lines.add_places.Given as goal

abbrev pub invariant-loop-place : goal.invariant-loop-place
invariant-loop-place l = l.out.items ++ flat_map (place_line l.units) (drop l.place-index l.places) ≡ l.fn.out.items ++ flat_map (place_line l.units) l.places
