use Rattle.std.proofs.Common.{◌≡◌, ◌+◌, drop}
use Rattle.jr_machine_defs.specs.Finding.{slot_index}
use Rattle.jr_machine_ops.proofs.variables.slot_index.Given as goal

abbrev pub invariant-loop-i : goal.invariant-loop-i
invariant-loop-i l = l.i + slot_index (drop l.i l.slots) l.key ≡ slot_index l.slots l.key
