use Rattle.std.proofs.Common.{◌≡◌, ◌-◌, ◌++◌}
use Rattle.jr_flow_defs.specs.Acts.{siblings}
use Rattle.jr_flow.specs.Seen.{seen, stored}
use Rattle.jr_flow.proofs.expressions.write_items.Given as goal

abbrev pub invariant-loop-turn : goal.invariant-loop-turn
invariant-loop-turn l = seen l.acts ++ stored (siblings l.rows (l.room - l._turn) l.item l.stop) ≡ seen l.fn.acts ++ stored (siblings l.rows l.room l.from l.stop)
