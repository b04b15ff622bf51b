use Rattle.std.proofs.Common.{arith}
use Rattle.jr_flow.specs.Seen.{seen}
use Rattle.jr_flow.proofs.Siblings.{such_written}
use Rattle.jr_flow.proofs.statements.write_only.Goals as goal

pub loop-turn-preserved : goal.loop-turn-preserved
loop-turn-preserved c = such_written c.args.rows.now c.args.are_parameters (seen c.loop-turn.acts) (seen c.write_if_such.new.acts) _ c.args.room c.loop-turn._turn c.loop-turn.part c.args.stop c.end_at-part.result c.is_such.result (omega arith) (omega arith)
    (c.end_at-part.ensures (omega arith)) c.is_such.ensures c.in_ok-write_if_such.ensures c.loop-turn.invariant
