use Rattle.std.proofs.Common.{◌∙◌, ap}
use Rattle.jr_plain.specs.Modifiers.{is_static}
use Rattle.jr_elab.proofs.bodies.is_static_at.Goals as goal

pub returns : goal.returns
returns c = c.is_static.ensures ∙ ap (λ p. is_static p c.args.at) c.rows.ensures
