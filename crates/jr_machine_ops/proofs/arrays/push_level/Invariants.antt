use Rattle.std.proofs.Common.{◌≡◌, ◌++◌, ◌-◌}
use Rattle.jr_base.specs.Mirror.{plain_ty}
use Rattle.jr_machine_defs.specs.Arrays.{arrays_of_arrays}
use Rattle.jr_machine_ops.proofs.arrays.push_level.Given as goal

abbrev pub invariant-loop-i : goal.invariant-loop-i
invariant-loop-i l = l.cells ++ arrays_of_arrays (plain_ty l.item) l.at l.size (l.count - l.i) ≡ l.initial.cells ++ arrays_of_arrays (plain_ty l.item) l.fn.first l.size l.count
