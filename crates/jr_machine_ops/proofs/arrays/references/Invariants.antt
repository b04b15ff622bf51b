use Rattle.std.proofs.Common.{◌≡◌, ◌++◌, ◌-◌}
use Rattle.jr_machine_defs.specs.Arrays.{references}
use Rattle.jr_machine_ops.proofs.arrays.references.Given as goal

abbrev pub invariant-loop-i : goal.invariant-loop-i
invariant-loop-i l = l.items ++ references l.at (l.size - l.i) ≡ references l.fn.first l.size
