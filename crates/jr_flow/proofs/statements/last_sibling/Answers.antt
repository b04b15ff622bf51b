use Rattle.std.proofs.Common.{arith}
use Rattle.jr_flow.proofs.Siblings.{last_next, last_past, last_none}
use Rattle.jr_flow.proofs.statements.last_sibling.Goals as goal

pub loop-turn-preserved : goal.loop-turn-preserved
loop-turn-preserved c = last_next c.args.rows.now _ c.loop-turn.last c.args.room c.loop-turn._turn c.loop-turn.part c.args.stop c.end_at-part.result (omega arith) (omega arith) (c.end_at-part.ensures (omega arith)) c.loop-turn.invariant

pub returns-then-part-stop : goal.returns-then-part-stop
returns-then-part-stop c = last_past c.args.rows.now _ c.loop-turn.last _ c.loop-turn.part c.args.stop (omega arith) c.loop-turn.invariant

pub returns : goal.returns
returns c = last_none c.args.rows.now _ c.loop-turn.last c.args.room c.loop-turn._turn c.loop-turn.part c.args.stop (omega arith) c.loop-turn.invariant
