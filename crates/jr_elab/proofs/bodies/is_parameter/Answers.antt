use Rattle.std.proofs.Common.{sym, ◌∙◌, ap}
use Rattle.jr_tree.specs.declared.label.Role.TheVariants as role
use Rattle.jr_tree.specs.Rows.{role_at}
use Rattle.jr_plain.specs.Same.{same_role}
use Rattle.jr_elab.proofs.Callable.{not_parameter}
use Rattle.jr_elab.proofs.bodies.is_parameter.Goals as goal

pub returns-in_default : goal.returns-in_default
returns-in_default c = sym (not_parameter _ c.in_default.not-Parameter) ∙ ap (λ r. same_role r role.Parameter) (c.role_at.ensures ∙ ap (λ p. role_at p c.args.row) c.rows.ensures)
