use Rattle.std.proofs.Common.{[], ◌∷◌}
use Rattle.jr_engine.specs.Steps.{opened_by}
use Rattle.jr_engine.proofs.Stepping.{alone_zero, one_refused, one_step, planned_so, refused_so}
use Rattle.jr_engine.proofs.planning.plan.Goals as goal

pub returns-in-Err-clause-planned : goal.returns-in-Err-clause-planned
returns-in-Err-clause-planned c = let first = c.in_ok-found.found in let why = c.in-Err.refused in
    refused_so c.args.files.now first (c.args.request.now ∷ []) why.request why.fault c.in_ok-found.ensures.same c.in_ok-found.ensures.held
    (one_refused first c.args.request.now why.request why.fault c.in_ok-found.ensures.held c.in-Err.ensures.err c.in-Err.ensures.number)

pub returns-in-Err-clause-number : goal.returns-in-Err-clause-number
returns-in-Err-clause-number c = alone_zero c.in-Err.refused.fault c.in-Err.refused.request c.in-Err.ensures.number

pub returns-in-Ok-clause-planned : goal.returns-in-Ok-clause-planned
returns-in-Ok-clause-planned c = let first = c.in_ok-found.found in let last = c.in-Ok.left in
    planned_so c.args.files.now first last (c.args.request.now ∷ []) c.in_ok-found.ensures.same c.in_ok-found.ensures.held c.in-Ok.ensures.held
    (one_step (opened_by first) (opened_by last) c.args.request.now c.in-Ok.ensures.step)
