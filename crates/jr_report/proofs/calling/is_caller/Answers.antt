use Rattle.std.proofs.Common.{◌∙◌, sym, subst, ◌+◌, ◌<◌, ◌^◌}
use Rattle.jr_report.proofs.Seeking.{no_code, code_if}
use Rattle.jr_report.proofs.calling.is_caller.Goals as goal

pub returns-then-not-has_code : goal.returns-then-not-has_code
returns-then-not-has_code c = λ range. no_code c.args.view.now c.args.sought.called.now c.args.sought.is_to_string c.args.at (sym c.has_code.ensures ∙ c.if-not-has_code.true)

pub returns : goal.returns
returns c = λ range. let stop = c.end_at.ensures range.start in
    code_if c.args.view.now c.args.sought.called.now c.args.sought.is_to_string c.args.at _ _ (sym c.has_code.ensures ∙ c.if-not-has_code.false) stop
    (c.holds.ensures (subst (λ n. n + 1 < 2 ^ 32) (sym stop) range.stop))
