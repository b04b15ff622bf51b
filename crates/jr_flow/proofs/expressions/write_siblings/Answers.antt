use Rattle.std.proofs.Common.{arith, ◌++◌, map}
use Rattle.jr_flow_defs.specs.Acts.{part, siblings}
use Rattle.jr_flow.specs.Seen.{seen}
use Rattle.jr_flow.proofs.Siblings.{part_written}
use Rattle.jr_flow.proofs.expressions.write_siblings.Goals as goal

pub loop-turn-preserved : goal.loop-turn-preserved
loop-turn-preserved c = part_written c.args.rows.now (seen c.loop-turn.acts) (seen c.push.new.self) _ c.args.room c.loop-turn._turn c.loop-turn.part c.args.stop c.end_at-part.result (omega arith) (omega arith) (c.end_at-part.ensures (omega arith)) c.in_ok-push.ensures c.loop-turn.invariant
