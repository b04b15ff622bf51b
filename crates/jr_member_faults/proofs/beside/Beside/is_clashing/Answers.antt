use Rattle.std.proofs.Common.{sym, ◌∙◌, ap, ◌&&◌}
use Rattle.jr_member_faults.specs.Beside.{has_clashing}
use Rattle.jr_member_faults.specs.Views.{rows_of, table_of}
use Rattle.jr_member_faults.proofs.beside.Beside.is_clashing.Goals as goal

pub returns-then-not-is_first_in : goal.returns-then-not-is_first_in
returns-then-not-is_first_in c = λ h. let w = c.args.self.world.now in sym (ap (λ b. b && has_clashing (rows_of w) (table_of w) c.args.clash c.args.self.over c.args.all.now c.args.method) (sym c.is_first_in.ensures ∙ c.if-not-is_first_in.true))

pub returns : goal.returns
returns c = λ h. let w = c.args.self.world.now in c.in_ok-is.ensures h ∙ sym (ap (λ b. b && has_clashing (rows_of w) (table_of w) c.args.clash c.args.self.over c.args.all.now c.args.method) (sym c.is_first_in.ensures ∙ c.if-not-is_first_in.false))
