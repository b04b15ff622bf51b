use Rattle.std.proofs.Common.{◌≡◌, ◌+◌, ◌-◌, ◌<◌, ◌^◌, length}
use Rattle.jr_flow_defs.specs.Meaning.{unwrapped, operand}
use Rattle.jr_flow.proofs.meaning.operand.Given as goal

abbrev pub invariant-loop-turn : goal.invariant-loop-turn
invariant-loop-turn l = l.at + 1 < 2 ^ 32 → length l.rows < 2 ^ 32 → unwrapped l.rows (length l.rows - l._turn) l.here ≡ operand l.rows l.at
