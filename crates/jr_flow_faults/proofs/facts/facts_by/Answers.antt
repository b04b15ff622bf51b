use Rattle.std.proofs.Common.{arith}
use Rattle.jr_flow_faults.proofs.Gathering.{tabulated_more}
use Rattle.jr_flow_faults.proofs.facts.facts_by.Goals as goal

pub loop-at-preserved : goal.loop-at-preserved
loop-at-preserved c = λ whole. tabulated_more _ c.loop-at.at _ _ _ (c.loop-at.invariant whole) (c.fact_at-fact.ensures (omega arith)) c.in_ok-push.ensures.items
