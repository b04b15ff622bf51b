use Rattle.std.proofs.Common.{◌≡◌, ◌++◌, ◌-◌}
use Rattle.std.specs.Prelude.{replicate}
use Rattle.jr_base.specs.Mirror.{plain_ty}
use Rattle.jr_machine_defs.specs.declared.heap.Cell.TheVariants as cell
use Rattle.jr_machine_defs.specs.Values.{default_of}
use Rattle.jr_machine_ops.proofs.arrays.push_leaves.Given as goal

abbrev pub invariant-loop-i : goal.invariant-loop-i
invariant-loop-i l = l.cells ++ replicate (l.count - l.i) (cell.Array (plain_ty l.item) (replicate l.size (default_of (plain_ty l.item)))) ≡ l.initial.cells ++ replicate l.count (cell.Array (plain_ty l.item) (replicate l.size (default_of (plain_ty l.item))))
