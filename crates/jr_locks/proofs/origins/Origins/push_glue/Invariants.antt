use Rattle.std.proofs.Common.{false}
use Rattle.std.specs.Prelude.{replicate}
use Rattle.jr_locks.specs.Origins.{no_row}
use Rattle.jr_locks.specs.Adding.{Adds}
use Rattle.jr_locks.proofs.origins.Origins.push_glue.Given as goal

abbrev pub invariant-loop-turn : goal.invariant-loop-turn
invariant-loop-turn l = Adds l.fn.self l.self (replicate l.turn no_row) (replicate l.turn false) (replicate l.turn 0)
