use Rattle.std.proofs.Common.{◌≡◌, ◌-◌, ◌<◌, ◌^◌, length}
use Rattle.jr_assign_faults.specs.Known.{bare}
use Rattle.jr_assign_faults.proofs.operands.bare.Given as goal

abbrev pub invariant-loop-turn : goal.invariant-loop-turn
invariant-loop-turn l = length l.rows < 2 ^ 32 → bare l.rows (length l.rows - l._turn) l.inner ≡ bare l.rows (length l.rows) l.at
