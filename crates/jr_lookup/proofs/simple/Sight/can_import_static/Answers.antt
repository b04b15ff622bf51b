use Rattle.std.proofs.Common.{◌∙◌, ap, ◌&&◌}
use Rattle.jr_plain.specs.Modifiers.{is_static}
use Rattle.jr_lookup.proofs.simple.Sight.can_import_static.Goals as goal

pub returns : goal.returns
returns c = λ placed. c.is_static_and.ensures ∙ ap (λ b. is_static c.args.self.now.world.under.rows.now c.args.at && b) (c.can_import-is_such.ensures placed)
