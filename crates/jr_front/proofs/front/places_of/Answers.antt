use Rattle.std.proofs.Common.{◌∙◌, ap, Err}
use Rattle.std.proofs.lemmas.Result.{err_from_is_err_and}
use Rattle.jr_front.specs.Reasons.{IsNameReason}
use Rattle.jr_front.proofs.Bound.{placed_by}
use Rattle.jr_front.proofs.Refused.{err_is}
use Rattle.jr_front.proofs.front.places_of.Goals as goal

pub returns-clause-names : goal.returns-clause-names
returns-clause-names c = λ is. c.in_ok-judge_names.ensures.names
    (placed_by c.args.marks.now.rows.now c.of.result c.in_ok-places.places.value c.deref.result.now is (c.are_packages_named.ensures.0 c.if-not-are_packages_named.false) c.of.ensures.tables c.in_ok-places.ensures c.deref.ensures)

pub returns-in_err-judge_names-clause-err : goal.returns-in_err-judge_names-clause-err
returns-in_err-judge_names-clause-err c = λ ordered is.
    let p = err_from_is_err_and c.from_residual-in_err-judge_names.result c.from_residual-in_err-judge_names.ensures.1 in
    err_is (IsNameReason c.args.marks.now) c.from_residual-in_err-judge_names.result c.in_err-judge_names.field-0.0 (p.1 ∙ ap Err p.2)
    (c.in_err-judge_names.ensures.err ordered is
    (placed_by c.args.marks.now.rows.now c.of.result c.in_ok-places.places.value c.deref.result.now is (c.are_packages_named.ensures.0 c.if-not-are_packages_named.false) c.of.ensures.tables c.in_ok-places.ensures c.deref.ensures))
