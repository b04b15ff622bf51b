use Rattle.std.proofs.Common.{◌≡◌, drop}
use Rattle.jr_machine_defs.specs.Values.{value_of}
use Rattle.jr_machine_ops.proofs.variables.value_of.Given as goal

abbrev pub invariant-loop-slot : goal.invariant-loop-slot
invariant-loop-slot l = value_of (drop l.slot-index l.slots) l.key ≡ value_of l.slots l.key
