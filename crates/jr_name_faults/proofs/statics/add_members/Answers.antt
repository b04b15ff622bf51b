use Rattle.std.proofs.Common.{◌∙◌, ap, ◌++◌, filter}
use Rattle.std.proofs.lemmas.Result.{on_ok_weaker}
use Rattle.jr_lookup.specs.Sights.{is_static_importable}
use Rattle.jr_lookup.proofs.Sighting.{adds_reached}
use Rattle.jr_name_faults.specs.Imports.{rows_of, table_of}
use Rattle.jr_name_faults.proofs.statics.add_members.Goals as goal

pub returns : goal.returns
returns c = λ tabled. let p = rows_of c.args.world.now in let t = table_of c.args.world.now in let placed = tabled.right.seen.placed in on_ok_weaker c.add_importable.result
    (λ is. adds_reached p placed.local t c.args.kind c.args.unit c.args.name c.args.over c.args.all.now.items _ c.in_ok-members.members.items
    (is ∙ ap (λ xs. c.args.all.now.items ++ filter (is_static_importable p c.args.unit) xs) c.deref.ensures.value) (c.in_ok-members.ensures t tabled.right)) (c.add_importable.ensures placed)
