use Rattle.std.proofs.Common.{◌≡◌, drop}
use Rattle.jr_marks.specs.Places.{IsOrdered}
use Rattle.jr_names.specs.Renaming.{with_all}
use Rattle.jr_names.proofs.units.Renaming.add_these.Given as goal

abbrev pub invariant-loop-unit : goal.invariant-loop-unit
invariant-loop-unit l = IsOrdered l.marks → with_all l.marks l.self.moved l.self.path.now l.self.to.now l.self.rows.now (drop l.unit-index l.units) l.draft
    ≡ with_all l.marks l.self.moved l.self.path.now l.self.to.now l.self.rows.now l.units l.fn.draft
