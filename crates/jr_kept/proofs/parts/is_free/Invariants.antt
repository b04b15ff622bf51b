use Rattle.std.proofs.Common.{◌+◌, ◌≤◌}
use Rattle.jr_kept.specs.Waiting.{IsGoingUp}
use Rattle.jr_kept.proofs.parts.is_free.Given as goal

abbrev pub invariant-loop-turn : goal.invariant-loop-turn
invariant-loop-turn l = (l.at + l._turn ≤ l.row) × IsGoingUp l.rows l.body l.row l.at l.is_held
