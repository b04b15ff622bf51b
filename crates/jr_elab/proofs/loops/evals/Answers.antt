use Rattle.jr_elab.proofs.Looped.{evals_more, evals_all}
use Rattle.jr_elab.proofs.loops.evals.Goals as goal

pub loop-row-preserved : goal.loop-row-preserved
loop-row-preserved c = evals_more _ _ _ _ _ _ _ c.loop-row.invariant c.in-Some.ensures c.in_ok-add_eval.ensures

pub returns : goal.returns
returns c = evals_all _ _ _ _ c.loop-row.invariant c.in_default.ensures
