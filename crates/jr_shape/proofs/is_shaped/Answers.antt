use Rattle.std.proofs.Common.{◌∙◌, sym}
use Rattle.jr_tree.specs.Mirror.Decls.{plain_unit}
use Rattle.jr_shape.proofs.DeclTests.{tells_unit}
use Rattle.jr_shape.proofs.is_shaped.Goals as goal

pub returns : goal.returns
returns c =
    let tells = tells_unit (plain_unit c.args.unit.now) in
    (λ e. tells.holds (sym c.is_shaped_unit.ensures ∙ e), λ p. c.is_shaped_unit.ensures ∙ tells.shown p)
