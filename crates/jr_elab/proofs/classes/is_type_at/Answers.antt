use Rattle.std.proofs.Common.{◌∙◌, ap}
use Rattle.jr_plain.specs.Declarations.{is_type}
use Rattle.jr_elab.proofs.classes.is_type_at.Goals as goal

pub returns : goal.returns
returns c = c.is_type.ensures ∙ ap (λ p. is_type p c.args.at) c.rows.ensures
