use Rattle.jr_kept.specs.Copied.{AreCounted}
use Rattle.jr_kept.proofs.copies.count_all.Given as goal

abbrev pub invariant-loop-from : goal.invariant-loop-from
invariant-loop-from l = AreCounted l.origin l.body 0 l.fn.copies.items → AreCounted l.origin l.body l.from-index l.copies.items
