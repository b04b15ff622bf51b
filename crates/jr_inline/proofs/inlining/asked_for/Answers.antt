use Rattle.jr_inline.proofs.Answering.{goes_so, stays_so}
use Rattle.jr_inline.proofs.inlining.asked_for.Goals as goal

pub returns-in-Some : goal.returns-in-Some
returns-in-Some c = λ ordered. goes_so c.args.old.now c.args.found c.in-Some.local c.inlined_local.result ordered c.in-Some.ensures c.inlined_local.ensures.ok c.inlined_local.ensures.fault

pub returns-in-None : goal.returns-in-None
returns-in-None c = λ ordered. stays_so c.args.old.now c.args.found c.in-None.ensures
