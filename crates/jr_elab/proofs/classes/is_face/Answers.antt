use Rattle.std.proofs.Common.{◌∙◌, ap}
use Rattle.jr_plain.specs.Declarations.{is_interface}
use Rattle.jr_elab.proofs.classes.is_face.Goals as goal

pub returns : goal.returns
returns c = c.is_interface.ensures ∙ ap (λ p. is_interface p c.args.over) c.rows.ensures
