use Rattle.std.proofs.Common.{◌∙◌, sym}
use Rattle.std.proofs.lemmas.Bool.{leb-true, le-leb}
use Rattle.jr_tree.specs.Depth.{depth}
use Rattle.jr_tree.specs.Mirror.Decls.{plain_unit}
use Rattle.jr_depth.proofs.Depths.{unit}
use Rattle.jr_depth.proofs.is_within_depth.Goals as goal

pub returns : goal.returns
returns c =
    let within = unit c.args.most (plain_unit c.args.unit.now) in
    let deep = depth c.args.unit.now in
    (λ e. leb-true deep c.args.most (sym within.is ∙ sym c.is_unit_within.ensures ∙ e), λ h. c.is_unit_within.ensures ∙ within.is ∙ le-leb deep c.args.most h)
