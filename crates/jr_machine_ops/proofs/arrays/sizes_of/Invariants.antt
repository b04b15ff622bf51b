use Rattle.std.proofs.Common.{◌≡◌, false, [], length}
use Rattle.jr_machine_defs.specs.Arrays.{sizes_from}
use Rattle.jr_machine_ops.proofs.arrays.sizes_of.Given as goal

abbrev pub invariant-loop-value : goal.invariant-loop-value
invariant-loop-value l = sizes_from l.dims l.is_negative l.sizes ≡ sizes_from l.initial.dims false []

abbrev pub decreases-loop-value : goal.decreases-loop-value
decreases-loop-value l = length l.dims
