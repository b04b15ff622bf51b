use Rattle.std.proofs.Common.{◌∙◌, ap, Err}
use Rattle.std.proofs.lemmas.Result.{err_from_is_err_and}
use Rattle.jr_engine.specs.Refusing.{IsRefusedFrom, IsZeroOfFiles}
use Rattle.jr_engine.specs.Steps.{opened_by}
use Rattle.jr_engine.proofs.Stepping.{at_next, at_last, err_is, refused_at, zero_of_files}
use Rattle.jr_engine.proofs.planning.left_by_all.Goals as goal

pub loop-request-preserved : goal.loop-request-preserved
loop-request-preserved c =
    at_next (opened_by c.args.found) c.args.requests.now c.loop-request.now c.in_ok-now.now c.in-Some.request.now c.loop-request.rest.now c.in-Some.after.now c.loop-request.number c.saturating_add-number.result
    c.loop-request.invariant c.in-Some.ensures.cases.0 c.saturating_add-number.ensures c.in_ok-now.ensures.step c.in_ok-now.ensures.held

pub returns-clause-steps : goal.returns-clause-steps
returns-clause-steps c = at_last (opened_by c.args.found) c.args.requests.now c.loop-request.now c.loop-request.rest.now c.loop-request.number c.loop-request.invariant c.in_default.ensures.cases

pub returns-in_err-now-clause-err : goal.returns-in_err-now-clause-err
returns-in_err-now-clause-err c =
    let p = err_from_is_err_and c.from_residual.result c.from_residual.ensures.1 in
    let why = c.in_err-now.field-0.0 in
    err_is (λ refused. IsRefusedFrom (opened_by c.args.found) c.args.requests.now refused.request refused.fault) c.from_residual.result why (p.1 ∙ ap Err p.2)
    (refused_at (opened_by c.args.found) c.args.requests.now c.loop-request.now c.in-Some.request.now c.loop-request.rest.now c.in-Some.after.now c.loop-request.number c.saturating_add-number.result why.request why.fault
    c.loop-request.invariant c.in-Some.ensures.cases.0 c.saturating_add-number.ensures c.in_err-now.ensures.err c.in_err-now.ensures.number)

pub returns-in_err-now-clause-zero : goal.returns-in_err-now-clause-zero
returns-in_err-now-clause-zero c =
    let p = err_from_is_err_and c.from_residual.result c.from_residual.ensures.1 in
    let why = c.in_err-now.field-0.0 in
    err_is IsZeroOfFiles c.from_residual.result why (p.1 ∙ ap Err p.2)
    (zero_of_files c.loop-request.number c.saturating_add-number.result why.request why.fault c.saturating_add-number.ensures c.in_err-now.ensures.number)
