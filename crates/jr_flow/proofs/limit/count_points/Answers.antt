use Rattle.std.proofs.Common.{sym, ap, ◌∙◌, subst}
use Rattle.std.proofs.lemmas.Result.{err_from_is_err_and}
use Rattle.jr_flow.specs.Views.{rows_in}
use Rattle.jr_flow.specs.Coded.{IsCoded, IsTooLarge}
use Rattle.jr_flow.specs.Numbered.{OnlyWhere}
use Rattle.jr_flow.specs.Stated.{AreAllTurned}
use Rattle.jr_flow.proofs.Few.{not_too_large}
use Rattle.jr_flow.proofs.limit.count_points.Goals as goal

pub returns-in_err-states-clause-large : goal.returns-in_err-states-clause-large
returns-in_err-states-clause-large c = λ m view tree lt. let rows = rows_in c.args.view.now in let coded = c.in_ok-code.ensures m view tree lt in
    let q = err_from_is_err_and c.from_residual-in_err-states.result c.from_residual-in_err-states.ensures.1 in rw (q.1, q.2)
    (subst (λ b. OnlyWhere (IsTooLarge rows m b) c.in_err-states.field-0.0) (ap (λ x. x.body) c.deref.ensures ∙ coded.0) (c.in_err-states.ensures.large m (subst (λ x. IsCoded rows m x) (sym c.deref.ensures) coded.1)))

pub returns-clause-small : goal.returns-clause-small
returns-clause-small c = λ m view tree lt. let p = rows_in c.args.view.now in let coded = c.in_ok-code.ensures m view tree lt in
    let turned = c.in_ok-states.ensures.done m (subst (λ x. IsCoded p m x) (sym c.deref.ensures) coded.1) in
    not_too_large p m c.args.body c.in_ok-states.states.value (subst (λ b. AreAllTurned p m b c.in_ok-states.states.value) (ap (λ x. x.body) c.deref.ensures ∙ coded.0) turned)
