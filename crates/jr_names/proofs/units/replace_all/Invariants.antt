use Rattle.std.proofs.Common.{◌≡◌, ◌<◌, drop, length}
use Rattle.jr_marks.specs.Places.{IsOrdered}
use Rattle.jr_names.specs.Renaming.{renamed_in}
use Rattle.jr_names.proofs.units.replace_all.Given as goal

abbrev pub invariant-loop-row : goal.invariant-loop-row
invariant-loop-row l = IsOrdered l.marks → l.unit < length l.marks.units.now → renamed_in l.marks l.to l.unit (drop l.row-index l.rows) l.edits ≡ renamed_in l.marks l.to l.unit l.rows l.fn.edits
