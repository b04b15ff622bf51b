use Rattle.std.proofs.Common.{◌≡◌, ◌≤◌, length, drop}
use Rattle.jr_tree.specs.Decls.{modifiers_of}
use Rattle.jr_index.proofs.words.modifiers_of.Given as goal

abbrev pub invariant-loop-left : goal.invariant-loop-left
invariant-loop-left l = (l.left ≤ length l.modifiers) × (l.all ≡ modifiers_of (drop l.left l.modifiers))

abbrev pub decreases-loop-left : goal.decreases-loop-left
decreases-loop-left l = l.left
