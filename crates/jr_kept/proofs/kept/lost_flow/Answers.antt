use Rattle.std.proofs.lemmas.Result.{err_from_is_err_and}
use Rattle.jr_kept.proofs.kept.lost_flow.Goals as goal

pub returns-clause-only_control : goal.returns-clause-only_control
returns-clause-only_control c = λ m w seen other still free keeps moved. c.both_lost.ensures.no_control (c.in_ok-raised.ensures.only_control m w seen other moved still) (c.in_ok-ordered.ensures.only_control m w seen other free keeps)

pub returns-clause-only_uses : goal.returns-clause-only_uses
returns-clause-only_uses c = λ m w seen other here keeps moved. c.both_lost.ensures.no_use (c.in_ok-raised.ensures.only_uses m w seen other moved) (c.in_ok-ordered.ensures.only_uses m w seen other here keeps)

pub returns-in_err-raised-clause-large : goal.returns-in_err-raised-clause-large
returns-in_err-raised-clause-large c = λ m w seen other. let q = err_from_is_err_and c.from_residual.result c.from_residual.ensures.1 in rw (q.1, q.2) (c.in_err-raised.ensures.large m w seen other)

pub returns-in_err-ordered-clause-large : goal.returns-in_err-ordered-clause-large
returns-in_err-ordered-clause-large c = λ m w seen other. let q = err_from_is_err_and c.from_residual-in_err-ordered.result c.from_residual-in_err-ordered.ensures.1 in rw (q.1, q.2) (c.in_err-ordered.ensures.large m w seen other)
