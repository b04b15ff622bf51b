use Rattle.std.proofs.Common.{◌≡◌, ◌-◌}
use Rattle.jr_meaning.specs.Whole.{has_rows}
use Rattle.jr_meaning.proofs.holding.has_rows.Given as goal

abbrev pub invariant-loop-turn : goal.invariant-loop-turn
invariant-loop-turn l = has_rows l.rows l.at l.end (l.count - l._turn) ≡ has_rows l.rows l.from l.end l.count
