use Rattle.std.proofs.Common.{◌≡◌, drop}
use Rattle.jr_marks.specs.Places.{IsOrdered}
use Rattle.jr_names.specs.Renaming.{reaches_prelude}
use Rattle.jr_names.proofs.family.reaches_prelude.Given as goal

abbrev pub invariant-loop-row : goal.invariant-loop-row
invariant-loop-row l = IsOrdered l.marks → reaches_prelude l.marks (drop l.row-index l.family) ≡ reaches_prelude l.marks l.family
