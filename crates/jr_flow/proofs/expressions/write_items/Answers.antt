use Rattle.std.proofs.Common.{arith}
use Rattle.jr_flow.specs.Seen.{seen}
use Rattle.jr_flow.proofs.Siblings.{item_written}
use Rattle.jr_flow.proofs.expressions.write_items.Goals as goal

pub loop-turn-preserved : goal.loop-turn-preserved
loop-turn-preserved c = item_written c.args.rows.now (seen c.loop-turn.acts) (seen c.push.new.self) (seen c.push-in-loop-turn.new.self) _ c.args.room c.loop-turn._turn c.loop-turn.item c.args.stop c.end_at-item.result (omega arith) (omega arith) (c.end_at-item.ensures (omega arith)) c.in_ok-push.ensures c.in_ok-push-2.ensures c.loop-turn.invariant
