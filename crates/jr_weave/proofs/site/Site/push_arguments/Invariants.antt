use Rattle.std.proofs.Common.{◌≡◌, ◌++◌, drop}
use Rattle.jr_weave.specs.Pieces.{arguments}
use Rattle.jr_weave.proofs.site.Site.push_arguments.Given as goal

abbrev pub invariant-loop-ty : goal.invariant-loop-ty
invariant-loop-ty l = l.all.items ++ arguments l.self.marks.now l.self.unit l.fn.call l.next (drop l.ty-index l.casts)
    ≡ l.fn.all.items ++ arguments l.self.marks.now l.self.unit l.fn.call l.fn.first l.casts
