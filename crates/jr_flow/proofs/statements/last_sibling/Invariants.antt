use Rattle.std.proofs.Common.{◌≡◌, ◌-◌}
use Rattle.jr_flow_defs.specs.Acts.{siblings, last_or}
use Rattle.jr_flow.proofs.statements.last_sibling.Given as goal

abbrev pub invariant-loop-turn : goal.invariant-loop-turn
invariant-loop-turn l = last_or l.last (siblings l.rows (l.room - l._turn) l.part l.stop) ≡ last_or l.at (siblings l.rows l.room l.from l.stop)
