use Rattle.std.proofs.Common.{◌≡◌, ◌++◌}
use Rattle.jr_tree.specs.Words as t
use Rattle.jr_write.proofs.words.brackets.Given as goal

abbrev pub invariant-loop-left : goal.invariant-loop-left
invariant-loop-left l = l.out.items ++ t.brackets l.left ≡ l.initial.out.items ++ t.brackets l.initial.left

abbrev pub decreases-loop-left : goal.decreases-loop-left
decreases-loop-left l = l.left
