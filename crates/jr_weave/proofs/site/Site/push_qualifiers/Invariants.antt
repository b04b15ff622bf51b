use Rattle.std.proofs.Common.{◌≡◌, ◌++◌, length}
use Rattle.jr_defs.specs.Referents.{entries}
use Rattle.jr_weave.specs.Pieces.{qualifiers}
use Rattle.jr_weave.proofs.site.Site.push_qualifiers.Given as goal

abbrev pub decreases-loop-row : goal.decreases-loop-row
decreases-loop-row l = length l.rest

abbrev pub invariant-loop-row : goal.invariant-loop-row
invariant-loop-row l = l.all.items ++ qualifiers l.self.marks.now (entries l.self.table.now) l.self.unit l.behind l.rest
    ≡ l.fn.all.items ++ qualifiers l.self.marks.now (entries l.self.table.now) l.self.unit l.fn.class l.parts
