use Rattle.std.proofs.Common.{◌≡◌, ◌+◌, ◌<◌, ◌^◌, drop}
use Rattle.jr_marks.specs.Places.{IsOrdered}
use Rattle.jr_names.specs.Moving.{with_all}
use Rattle.jr_names.proofs.unit_move.UnitMove.add_these.Given as goal

abbrev pub invariant-loop-unit : goal.invariant-loop-unit
invariant-loop-unit l = IsOrdered l.self.marks.now → l.self.head.unit + 1 < 2 ^ 32
    → with_all l.self.marks.now l.self.head l.self.row l.self.named.now l.self.path.now (drop l.unit-index l.units) l.draft ≡ with_all l.self.marks.now l.self.head l.self.row l.self.named.now l.self.path.now l.units l.fn.draft
