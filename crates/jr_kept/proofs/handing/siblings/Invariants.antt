use Rattle.std.proofs.Common.{◌≡◌, ◌-◌, ◌++◌}
use Rattle.jr_flow_defs.specs.Acts.{siblings}
use Rattle.jr_kept.proofs.handing.siblings.Given as goal

abbrev pub invariant-loop-turn : goal.invariant-loop-turn
invariant-loop-turn l = l.all.items ++ siblings l.rows (l.room - l._turn) l.at l.stop ≡ siblings l.rows l.room l.from l.stop
