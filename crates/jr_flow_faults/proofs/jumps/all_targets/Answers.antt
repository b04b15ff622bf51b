use Rattle.std.proofs.Common.{arith}
use Rattle.jr_flow_faults.proofs.Innermost.{targets_more}
use Rattle.jr_flow_faults.proofs.jumps.all_targets.Goals as goal

pub loop-at-preserved : goal.loop-at-preserved
loop-at-preserved c = λ local whole. targets_more c.args.rows.now local c.loop-at.at _ _ _ _ (omega arith) (c.loop-at.invariant local whole) c.deref.ensures.value c.targets_at-targets.ensures c.in_ok-push.ensures.items
