use Rattle.std.proofs.Common.{◌≡◌, ◌<◌, drop, length}
use Rattle.jr_marks.specs.Places.{IsOrdered}
use Rattle.jr_names.specs.Renaming.{has_some}
use Rattle.jr_names.proofs.units.has_some.Given as goal

abbrev pub invariant-loop-row : goal.invariant-loop-row
invariant-loop-row l = IsOrdered l.marks → l.unit < length l.marks.units.now → has_some l.marks l.unit (drop l.row-index l.rows) ≡ has_some l.marks l.unit l.rows
