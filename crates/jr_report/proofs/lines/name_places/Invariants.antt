use Rattle.std.proofs.Common.{◌≡◌, ◌++◌, drop, map}
use Rattle.jr_marks.specs.Places.{IsOrdered, place_of_name}
use Rattle.jr_report.proofs.lines.name_places.Given as goal

abbrev pub invariant-loop-row : goal.invariant-loop-row
invariant-loop-row l = IsOrdered l.marks → l.all.items ++ map (place_of_name l.marks) (drop l.row-index l.rows) ≡ map (place_of_name l.marks) l.rows
