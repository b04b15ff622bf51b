use Rattle.std.proofs.lemmas.Result.{err_from_is_err_and}
use Rattle.jr_flow.proofs.states.explore_body.Goals as goal

pub returns-clause-done : goal.returns-clause-done
returns-clause-done c = λ m coded begun. c.explore.ensures.done m coded (c.in_ok-enter.ensures.done m coded begun)

pub returns-clause-large : goal.returns-clause-large
returns-clause-large c = λ m coded begun. c.explore.ensures.large m coded (c.in_ok-enter.ensures.done m coded begun)

pub returns-in_err-enter-clause-large : goal.returns-in_err-enter-clause-large
returns-in_err-enter-clause-large c = λ m coded begun. let p = err_from_is_err_and c.from_residual.result c.from_residual.ensures.1 in rw (p.1, p.2) (c.in_err-enter.ensures.large m coded begun)
