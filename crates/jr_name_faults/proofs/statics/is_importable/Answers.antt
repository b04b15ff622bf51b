use Rattle.std.proofs.Common.{◌∙◌, ap, not, ◌&&◌, ◌||◌}
use Rattle.jr_plain.specs.Modifiers.{is_private, is_public, is_static}
use Rattle.jr_name_faults.specs.Imports.{rows_of}
use Rattle.jr_name_faults.proofs.statics.is_importable.Goals as goal

pub returns : goal.returns
returns c = λ placed. let p = rows_of c.args.world.now in
    c.is_open_static.ensures ∙ ap (λ b. is_static p c.args.at && (not (is_private p c.args.at) && (is_public p c.args.at || b))) (c.is_one_package-is_one_package.ensures p placed.are placed.local placed.packages)
