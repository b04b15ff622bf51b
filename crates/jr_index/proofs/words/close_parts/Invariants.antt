use Rattle.jr_index.specs.Events as e
use Rattle.jr_index.specs.Writing.{written, Leads}
use Rattle.jr_index.proofs.words.close_parts.Given as goal

abbrev pub invariant-loop-left : goal.invariant-loop-left
invariant-loop-left l = Leads (written l.initial.out) (written l.out) (e.closes l.dots l.left) (e.closes 0 l.initial.left)

abbrev pub decreases-loop-left : goal.decreases-loop-left
decreases-loop-left l = l.left
