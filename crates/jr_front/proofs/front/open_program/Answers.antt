use Rattle.std.proofs.Common.{◌∙◌, sym, ap, subst, Err}
use Rattle.std.proofs.lemmas.Result.{err_from_is_err_and}
use Rattle.jr_marks.proofs.Made.{marks_ordered}
use Rattle.jr_prelude.specs.Begins.{BeginsWithLang}
use Rattle.jr_front.specs.Refusing.{IsRefusal}
use Rattle.jr_front.proofs.Refused.{err_is}
use Rattle.jr_front.proofs.Refusals.{made_same, paths_refused, judged_refused}
use Rattle.jr_front.proofs.Testable.{kept_so, testable_view}
use Rattle.jr_front.proofs.front.open_program.Goals as goal

pub returns-clause-kept : goal.returns-clause-kept
returns-clause-kept c = λ begins apart.
    let w = c.in_ok-workspace.workspace in
    let made = made_same c.args.program w.program w.index.value c.marks.result c.in_ok-workspace.ensures.same c.marks.ensures.made c.in_ok-workspace.ensures.rows c.in_ok-workspace.ensures.marks in
    let ordered = marks_ordered c.args.program c.marks.result c.requires made apart in
    kept_so c.args.program w c.view.result c.marks.result c.view.ensures.all made c.in_ok-judge.ensures.found c.in_ok-workspace.ensures.names
    (c.in_ok-judge.ensures.kept ordered) c.in_ok-workspace.ensures.rows (c.in_ok-workspace.ensures.bound begins) begins

pub returns-in_err-judge_paths-clause-err : goal.returns-in_err-judge_paths-clause-err
returns-in_err-judge_paths-clause-err c = λ begins apart.
    let p = err_from_is_err_and c.from_residual.result c.from_residual.ensures.1 in
    err_is (IsRefusal c.args.program) c.from_residual.result c.in_err-judge_paths.field-0.0 (p.1 ∙ ap Err p.2) (paths_refused c.args.program c.in_err-judge_paths.field-0.0 c.in_err-judge_paths.ensures.err)

pub returns-in_err-workspace-clause-err : goal.returns-in_err-workspace-clause-err
returns-in_err-workspace-clause-err c = λ begins apart.
    let p = err_from_is_err_and c.from_residual-in_err-workspace.result c.from_residual-in_err-workspace.ensures.1 in
    err_is (IsRefusal c.args.program) c.from_residual-in_err-workspace.result c.in_err-workspace.field-0.0 (p.1 ∙ ap Err p.2) (c.in_err-workspace.ensures.err begins apart c.in_ok-judge_paths.ensures.placed)

pub returns-in_err-judge-clause-err : goal.returns-in_err-judge-clause-err
returns-in_err-judge-clause-err c = λ begins apart.
    let p = err_from_is_err_and c.from_residual-in_err-judge.result c.from_residual-in_err-judge.ensures.1 in
    let w = c.in_ok-workspace.workspace in
    let here = subst BeginsWithLang (sym c.in_ok-workspace.ensures.rows) begins in
    let bound = c.in_ok-workspace.ensures.bound begins in
    let made = made_same c.args.program w.program w.index.value c.marks.result c.in_ok-workspace.ensures.same c.marks.ensures.made c.in_ok-workspace.ensures.rows c.in_ok-workspace.ensures.marks in
    let ordered = marks_ordered c.args.program c.marks.result c.requires made apart in
    err_is (IsRefusal c.args.program) c.from_residual-in_err-judge.result c.in_err-judge.field-0.0 (p.1 ∙ ap Err p.2)
    (judged_refused c.args.program c.marks.result
    made w c.view.result bound c.view.ensures.all here c.in_ok-workspace.ensures.rows c.in_ok-judge_paths.ensures.placed c.in_ok-workspace.ensures.names c.in_err-judge.field-0.0
    (c.in_err-judge.ensures.err ordered (testable_view w c.view.result bound c.view.ensures.all here)))
