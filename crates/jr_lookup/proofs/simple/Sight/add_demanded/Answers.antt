use Rattle.std.proofs.Common.{◌∙◌, ap, ◌++◌, filter}
use Rattle.std.proofs.lemmas.Result.{on_ok_weaker}
use Rattle.jr_plain.specs.Imports.{can_import}
use Rattle.jr_lookup.proofs.Demanding.{adds_demanded}
use Rattle.jr_lookup.proofs.simple.Sight.add_demanded.Goals as goal

pub returns : goal.returns
returns c = λ t sight import. let p = c.args.self.now.world.under.rows.now in on_ok_weaker c.add_importable.result
    (λ is. adds_demanded p sight.world.seen.placed.local t c.args.unit c.args.name c.args.import c.args.all.now.items _ c.in_ok-types.types.items
    (is ∙ ap (λ xs. c.args.all.now.items ++ filter (can_import p c.args.unit) xs) c.deref.ensures.value) (c.in_ok-types.ensures t sight import)) (c.add_importable.ensures sight.world.seen.placed)
