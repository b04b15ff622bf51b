use Rattle.std.proofs.Common.{◌≡◌, ◌++◌, length}
use Rattle.jr_machine_ops.proofs.arrays.items_of.Given as goal

abbrev pub invariant-loop-value : goal.invariant-loop-value
invariant-loop-value l = l.items ++ l.values ≡ l.initial.values

abbrev pub decreases-loop-value : goal.decreases-loop-value
decreases-loop-value l = length l.values
