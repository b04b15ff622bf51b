use Rattle.std.proofs.Common.{subst}
use Rattle.jr_engine.specs.Steps.{LeftBy}
use Rattle.jr_engine.proofs.planning.next.Goals as goal

pub returns-in-Some-clause-step : goal.returns-in-Some-clause-step
returns-in-Some-clause-step c = (subst (λ v. LeftBy c.args.now.program c.args.request.now v) c.in-Some.is c.in_ok-left.ensures.ok).step c.args.now.files c.requires.read

pub returns-in-None-clause-step : goal.returns-in-None-clause-step
returns-in-None-clause-step c = (subst (λ v. LeftBy c.args.now.program c.args.request.now v) c.in-None.is c.in_ok-left.ensures.ok) c.args.now.files c.requires.read
