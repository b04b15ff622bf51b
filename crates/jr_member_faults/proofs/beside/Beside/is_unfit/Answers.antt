use Rattle.std.proofs.Common.{sym, ◌∙◌, ap, ◌&&◌}
use Rattle.jr_member_faults.specs.Beside.{fit_none}
use Rattle.jr_member_faults.specs.Views.{rows_of, table_of}
use Rattle.jr_member_faults.proofs.beside.Beside.is_unfit.Goals as goal

pub returns-then-not-is_method : goal.returns-then-not-is_method
returns-then-not-is_method c = λ h. let w = c.args.self.world.now in sym (ap (λ b. b && fit_none (rows_of w) (table_of w) c.args.self.over c.args.all.now c.args.method) (sym c.is_method.ensures ∙ c.if-not-is_method.true))

pub returns : goal.returns
returns c = λ h. let w = c.args.self.world.now in c.in_ok-is.ensures h ∙ sym (ap (λ b. b && fit_none (rows_of w) (table_of w) c.args.self.over c.args.all.now c.args.method) (sym c.is_method.ensures ∙ c.if-not-is_method.false))
