use Rattle.std.proofs.Common.{◌≡◌, ◌+◌, ◌<◌, ◌^◌, drop}
use Rattle.jr_marks.specs.Places.{IsOrdered}
use Rattle.jr_draft.specs.Parting.{parted, with_all}
use Rattle.jr_draft.proofs.apart.add_units.Given as goal

abbrev pub invariant-loop-unit : goal.invariant-loop-unit
invariant-loop-unit l = IsOrdered l.marks → l.leaving.row + 1 < 2 ^ 32
    → with_all l.marks (parted l.leaving) l.path (drop l.unit-index l.order) l.draft ≡ with_all l.marks (parted l.leaving) l.path l.order l.fn.draft
