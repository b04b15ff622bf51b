use Rattle.std.proofs.Common.{sym, ◌∙◌}
use Rattle.jr_dispatch.proofs.Inheriting.{marked_no, marked_yes}
use Rattle.jr_dispatch.proofs.dispatch.mark_if.Goals as goal

pub returns-then-not-passes : goal.returns-then-not-passes
returns-then-not-passes c = λ bound counted. marked_no c.args.rows.now c.args.over c.args.method _ bound counted (sym c.passes.ensures ∙ c.if-not-passes.true)

pub returns : goal.returns
returns c = λ bound counted. marked_yes c.args.rows.now c.args.over c.args.method _ _ bound _ (sym c.passes.ensures ∙ c.if-not-passes.false) (c.add.ensures bound counted)
