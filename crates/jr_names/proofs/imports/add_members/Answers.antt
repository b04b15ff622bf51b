use Rattle.std.proofs.Common.{◌∙◌, ap, ◌++◌, filter}
use Rattle.jr_lookup.specs.Sights.{is_static_importable}
use Rattle.jr_lookup.proofs.Sighting.{adds_reached}
use Rattle.jr_names.proofs.imports.add_members.Goals as goal

pub returns : goal.returns
returns c = λ t world. let p = c.args.world.now.under.rows.now in
    adds_reached p world.seen.placed.local t c.args.kind c.args.unit c.args.name c.args.over c.args.all.now.items _ c.in_ok-members.members.items
    (c.in_ok-add_importable.ensures world.seen.placed ∙ ap (λ xs. c.args.all.now.items ++ filter (is_static_importable p c.args.unit) xs) c.as_slice-some.ensures.value) (c.in_ok-members.ensures t world)
