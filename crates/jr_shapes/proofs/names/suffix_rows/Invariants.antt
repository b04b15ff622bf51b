use Rattle.jr_shapes.proofs.Suffixes.{SuffixTo}
use Rattle.jr_shapes.proofs.names.suffix_rows.Given as goal

abbrev pub decreases-loop-left : goal.decreases-loop-left
decreases-loop-left l = l.left

abbrev pub invariant-loop-left : goal.invariant-loop-left
invariant-loop-left l = SuffixTo l.rows l.fn.suffix.count l.fn.suffix.of l.left l.at l.all.items
