use Rattle.std.proofs.Common.{◌≡◌, ◌++◌, ◌-◌}
use Rattle.std.specs.Prelude.{replicate}
use Rattle.jr_base.specs.Mirror.{plain_ty}
use Rattle.jr_machine_defs.specs.Values.{default_of}
use Rattle.jr_machine_ops.proofs.arrays.defaults.Given as goal

abbrev pub invariant-loop-i : goal.invariant-loop-i
invariant-loop-i l = l.items ++ replicate (l.size - l.i) (default_of (plain_ty l.item)) ≡ replicate l.size (default_of (plain_ty l.item))
