use Rattle.std.proofs.Common.{◌∙◌, ap, not, ◌&&◌, ◌||◌}
use Rattle.jr_plain.specs.Modifiers.{is_private, is_public}
use Rattle.jr_lookup.proofs.simple.Sight.can_import.Goals as goal

pub returns : goal.returns
returns c = λ placed. let p = c.args.self.now.world.under.rows.now in
    c.is_open.ensures ∙ ap (λ b. not (is_private p c.args.at) && (is_public p c.args.at || b)) (c.is_one_package-is_one_package.ensures p placed.are placed.local placed.packages)
