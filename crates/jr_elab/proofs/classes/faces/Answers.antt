use Rattle.std.proofs.Common.{◌∙◌}
use Rattle.jr_codes.specs.Reads.{facts}
use Rattle.jr_elab.proofs.Classed.{faces_are}
use Rattle.jr_elab.proofs.classes.faces.Goals as goal

pub returns : goal.returns
returns c = λ whole. faces_are (facts c.args.source.now) c.args.at _ _ _ (c.in_ok-falling.ensures whole) (c.deref.ensures.value ∙ c.in_reverse-supers.ensures) c.in_ok-all.ensures
