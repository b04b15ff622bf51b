use Rattle.std.proofs.Common.{◌-◌}
use Rattle.jr_kept.specs.Waiting.{HasRows}
use Rattle.jr_kept.proofs.parts.has_rows.Given as goal

abbrev pub invariant-loop-turn : goal.invariant-loop-turn
invariant-loop-turn l = HasRows l.rows l.at l.end (l.count - l._turn) → HasRows l.rows l.from l.end l.count
