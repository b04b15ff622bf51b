use Rattle.std.proofs.Common.{◌∙◌, ap}
use Rattle.jr_plain.specs.Enclosing.{is_body_of}
use Rattle.jr_elab.proofs.classes.is_body.Goals as goal

pub returns : goal.returns
returns c = c.is_body_of.ensures ∙ ap (λ p. is_body_of p c.args.at c.args.row) c.rows.ensures
