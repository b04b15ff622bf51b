use Rattle.std.proofs.Common.{◌≡◌}
use Rattle.jr_marks.specs.Places.{IsOrdered}
use Rattle.jr_draft.specs.Drafting.{begun}
use Rattle.jr_extract.specs.Writing.{extracted}
use Rattle.jr_extract.specs.Extracting.{IsWithin, extended_below}
use Rattle.jr_extract.proofs.extracting.add_units.Given as goal

abbrev pub invariant-loop-unit : goal.invariant-loop-unit
invariant-loop-unit l = IsOrdered l.marks → IsWithin l.marks l.added.run → l.fn.draft ≡ begun l.marks → record { drafted = l.draft; placed = l.placed } ≡ extended_below l.marks (extracted l.added) l.unit
