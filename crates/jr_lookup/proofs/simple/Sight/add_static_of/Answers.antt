use Rattle.std.proofs.Common.{◌∙◌, ap, ◌++◌, filter}
use Rattle.std.proofs.lemmas.Result.{on_ok_weaker}
use Rattle.jr_lookup.specs.Sights.{is_static_importable}
use Rattle.jr_lookup.proofs.Sighting.{adds_reached}
use Rattle.jr_lookup.proofs.simple.Sight.add_static_of.Goals as goal

pub returns : goal.returns
returns c = λ t world. let p = c.args.self.now.world.under.rows.now in on_ok_weaker c.add_static.result
    (λ is. adds_reached p world.seen.placed.local t c.args.kind c.args.unit c.args.name c.args.over c.args.all.now.items _ c.in_ok-members.members.items
    (is ∙ ap (λ xs. c.args.all.now.items ++ filter (is_static_importable p c.args.unit) xs) c.deref.ensures.value) (c.in_ok-members.ensures t world)) (c.add_static.ensures world.seen.placed)
