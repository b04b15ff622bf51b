use Rattle.std.proofs.Common.{◌∙◌, sym, subst}
use Rattle.std.proofs.lemmas.Result.{err_from_is_err_and}
use Rattle.jr_flow.specs.Stated.{AreBegun}
use Rattle.jr_flow.proofs.states.states_of.Goals as goal

pub returns-in_err-explore_body-clause-large : goal.returns-in_err-explore_body-clause-large
returns-in_err-explore_body-clause-large c = λ m coded. let body = c.args.code.now.body in
    let begun = subst (AreBegun body) (sym (c.deref_mut.ensures.value ∙ c.in_ok-states.ensures.ok)) (subst (λ b. AreBegun b c.in_ok-begun.field-0) c.body.ensures c.in_ok-begun.ensures) in
    let q = err_from_is_err_and c.from_residual-in_err-explore_body.result c.from_residual-in_err-explore_body.ensures.1 in rw (q.1, q.2) (c.in_err-explore_body.ensures.large m coded begun)
