use Rattle.std.proofs.Common.{arith}
use Rattle.jr_flow.proofs.Coding.{last_pushed, lasts_end}
use Rattle.jr_flow.proofs.code.push_lasts.Goals as goal

pub loop-at-preserved : goal.loop-at-preserved
loop-at-preserved c = last_pushed c.args.rows.now c.loop-at.lasts.items c.push.new.self.items _ c.loop-at.at c.args.end c.last_part.result (omega arith) (c.last_part.ensures (omega arith)) c.in_ok-push.ensures.items c.loop-at.invariant

pub returns : goal.returns
returns c = lasts_end c.args.rows.now c.loop-at.lasts.items _ c.loop-at.at c.args.end (omega arith) c.loop-at.invariant
