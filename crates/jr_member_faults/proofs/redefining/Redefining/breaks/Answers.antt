use Rattle.std.proofs.Common.{sym, ◌∙◌}
use Rattle.jr_member_faults.specs.Views.{rows_of, table_of}
use Rattle.jr_member_faults.proofs.Nearing.{breaks_by_form, breaks_by_throws}
use Rattle.jr_member_faults.proofs.redefining.Redefining.breaks.Goals as goal

pub returns-then-breaks_form : goal.returns-then-breaks_form
returns-then-breaks_form c = λ h th m k. let w = c.args.self.now.world.now in breaks_by_form (rows_of w) (table_of w) c.args.method c.args.other (sym (c.breaks_form.ensures h) ∙ c.if-breaks_form.true)

pub returns : goal.returns
returns c = λ h th m k. let w = c.args.self.now.world.now in breaks_by_throws (rows_of w) (table_of w) c.args.method c.args.other _ (sym (c.breaks_form.ensures h) ∙ c.if-breaks_form.false) (c.in_ok-is.ensures h th m k)
