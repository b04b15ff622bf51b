use Rattle.std.proofs.Common.{refl}
use Rattle.std.proofs.lemmas.Result.{on_ok_weaker}
use Rattle.jr_defs.specs.Referents.{entries}
use Rattle.jr_lookup.proofs.Sighting.{adds_named, adds_unnamed}
use Rattle.jr_lookup.proofs.simple.Sight.add_imported.Goals as goal

pub returns-in-Some : goal.returns-in-Some
returns-in-Some c = λ t sight import. let p = c.args.self.now.world.under.rows.now in on_ok_weaker c.add_static_of.result
    (λ h. adds_named p sight.world.seen.placed.local t c.args.kind c.args.unit c.args.name (entries c.args.self.now.world.under.table.now) sight.seen c.args.import import _ c.in-Some.over (c.named_type.ensures sight.few) c.in-Some.is _ _ h) (c.add_static_of.ensures t sight.world)

pub returns-in-None : goal.returns-in-None
returns-in-None c = λ t sight import. let p = c.args.self.now.world.under.rows.now in
    adds_unnamed p sight.world.seen.placed.local t c.args.kind c.args.unit c.args.name (entries c.args.self.now.world.under.table.now) sight.seen c.args.import import _ (c.named_type.ensures sight.few) c.in-None.is _ _ refl
