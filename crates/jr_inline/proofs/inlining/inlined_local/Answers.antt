use Rattle.jr_inline.specs.Inlining.{plan_by}
use Rattle.jr_inline.proofs.Answering.{inlined_by}
use Rattle.jr_inline.proofs.inlining.inlined_local.Goals as goal

pub returns-clause-ok : goal.returns-clause-ok
returns-clause-ok c = inlined_by c.args.old.now c.args.local (plan_by c.of-inlining.result) c.inlined.result c.of-inlining.ensures.local_is c.of-inlining.ensures.plan c.inlined.ensures.ok
