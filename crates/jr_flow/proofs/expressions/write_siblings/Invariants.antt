use Rattle.std.proofs.Common.{◌≡◌, ◌-◌, ◌++◌, map}
use Rattle.jr_flow_defs.specs.Acts.{part, siblings}
use Rattle.jr_flow.specs.Seen.{seen}
use Rattle.jr_flow.proofs.expressions.write_siblings.Given as goal

abbrev pub invariant-loop-turn : goal.invariant-loop-turn
invariant-loop-turn l = seen l.acts ++ map part (siblings l.rows (l.room - l._turn) l.part l.stop) ≡ seen l.fn.acts ++ map part (siblings l.rows l.room l.from l.stop)
