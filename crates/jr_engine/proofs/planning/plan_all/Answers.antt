use Rattle.jr_engine.proofs.Stepping.{planned_so, refused_so}
use Rattle.jr_engine.proofs.planning.plan_all.Goals as goal

pub returns-in-Err-clause-planned : goal.returns-in-Err-clause-planned
returns-in-Err-clause-planned c =
    refused_so c.args.files.now c.in_ok-found.found c.args.requests.now c.in-Err.refused.request c.in-Err.refused.fault c.in_ok-found.ensures.same c.in_ok-found.ensures.held c.in-Err.ensures.err

pub returns-in-Ok-clause-planned : goal.returns-in-Ok-clause-planned
returns-in-Ok-clause-planned c = planned_so c.args.files.now c.in_ok-found.found c.in-Ok.left c.args.requests.now c.in_ok-found.ensures.same c.in_ok-found.ensures.held c.in-Ok.ensures.held c.in-Ok.ensures.steps
