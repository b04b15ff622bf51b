use Rattle.std.proofs.Common.{◌≡◌, drop}
use Rattle.jr_marks.specs.Places.{IsOrdered}
use Rattle.jr_package.specs.Repackaging.{with_all}
use Rattle.jr_package.proofs.moving.Moving.add_these.Given as goal

abbrev pub invariant-loop-unit : goal.invariant-loop-unit
invariant-loop-unit l = IsOrdered l.self.named.now.marks.now
    → with_all l.self.named.now.marks.now l.self.named.now.table.now l.self.folder.now l.self.named.now.from.now l.self.to.now (drop l.unit-index l.units) l.draft
    ≡ with_all l.self.named.now.marks.now l.self.named.now.table.now l.self.folder.now l.self.named.now.from.now l.self.to.now l.units l.fn.draft
