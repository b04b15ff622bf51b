use Rattle.std.proofs.Common.{sym, ◌∙◌, not, ◌&&◌}
use Rattle.std.proofs.lemmas.Result.{IfOk-weaker}
use Rattle.jr_member_rules.specs.Throwing.{is_checked, allows}
use Rattle.jr_member_faults.specs.Views.{rows_of, table_of}
use Rattle.jr_member_faults.proofs.Checked.{no_declaration, one_declaration}
use Rattle.jr_member_faults.proofs.throwing.Thrown.is_not_allowed.Goals as goal

pub returns-in-Some : goal.returns-in-Some
returns-in-Some c = λ h th m. let w = c.args.world.now in IfOk-weaker c.is_class_not_allowed.result _ _
    (λ b e. one_declaration (table_of w c.args.name) c.in-Some.class b (λ k. is_checked (rows_of w) (table_of w) k && not (allows (rows_of w) (table_of w) c.args.method k)) (sym c.declared.ensures ∙ c.in-Some.is) e)
    (c.is_class_not_allowed.ensures h th m)

pub returns-in-None : goal.returns-in-None
returns-in-None c = λ h th m. no_declaration (table_of c.args.world.now c.args.name) _ (sym c.declared.ensures ∙ c.in-None.is)
