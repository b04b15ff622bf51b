use Rattle.std.proofs.Common.{◌⊎◌, ◌∙◌, ap, inl, inr, Err}
use Rattle.std.proofs.lemmas.Result.{err_from_is_err_and}
use Rattle.jr_defs.specs.Compiling.{AllFound}
use Rattle.jr_defs.specs.Referents.{entries}
use Rattle.jr_front.specs.Reasons.{IsTableReason, IsRuleReason}
use Rattle.jr_front.proofs.Refused.{err_is, err_more}
use Rattle.jr_front.proofs.front.judge.Goals as goal

pub returns-in_err-judge_table-clause-err : goal.returns-in_err-judge_table-clause-err
returns-in_err-judge_table-clause-err c = λ ordered testable.
    let t = entries c.args.view.now.sight.world.under.table.now in
    let p = err_from_is_err_and c.from_residual.result c.from_residual.ensures.1 in
    err_is (λ why. IsTableReason c.args.marks.now t why ⊎ (AllFound c.args.marks.now.rows.now t × IsRuleReason c.args.marks.now c.args.view.now why)) c.from_residual.result c.in_err-judge_table.field-0.0 (p.1 ∙ ap Err p.2)
    (inl (c.in_err-judge_table.ensures.err ordered))

pub returns-clause-err : goal.returns-clause-err
returns-clause-err c = λ ordered testable.
    let t = entries c.args.view.now.sight.world.under.table.now in
    err_more (IsRuleReason c.args.marks.now c.args.view.now) (λ why. IsTableReason c.args.marks.now t why ⊎ (AllFound c.args.marks.now.rows.now t × IsRuleReason c.args.marks.now c.args.view.now why)) c.judge_rules.result
    (λ why h. inr (c.in_ok-judge_table.ensures.found, h)) (c.judge_rules.ensures.err ordered testable)
