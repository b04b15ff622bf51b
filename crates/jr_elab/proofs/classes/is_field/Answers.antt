use Rattle.std.proofs.Common.{sym, ◌∙◌, ap}
use Rattle.jr_tree.specs.declared.label.Role.TheVariants as role
use Rattle.jr_tree.specs.Rows.{role_at}
use Rattle.jr_plain.specs.Same.{same_role}
use Rattle.jr_elab.proofs.Classed.{not_field}
use Rattle.jr_elab.proofs.classes.is_field.Goals as goal

pub returns-in_default : goal.returns-in_default
returns-in_default c = sym (not_field _ c.in_default.not-Field) ∙ ap (λ r. same_role r role.Field) (c.role_at.ensures ∙ ap (λ p. role_at p c.args.row) c.rows.ensures)
