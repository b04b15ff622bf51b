use Rattle.std.proofs.Common.{◌≡◌, ◌<◌, ◌^◌, length}
use Rattle.jr_assign_faults.specs.Changed.{operands}
use Rattle.jr_assign_faults.proofs.operands.operands_of.Given as goal

abbrev pub invariant-loop-at : goal.invariant-loop-at
invariant-loop-at l = length l.rows < 2 ^ 32 → l.all.items ≡ operands l.rows l.at
