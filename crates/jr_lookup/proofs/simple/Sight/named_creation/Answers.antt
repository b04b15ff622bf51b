use Rattle.std.proofs.lemmas.Result.{IfOk-weaker}
use Rattle.jr_defs.specs.Referents.{entries}
use Rattle.jr_defs.specs.Constants.{HasConstantForm}
use Rattle.jr_lookup.proofs.Looking.{named_behind, creation_looked, creation_none}
use Rattle.jr_lookup.proofs.simple.Sight.named_creation.Goals as goal

pub returns-in-Some : goal.returns-in-Some
returns-in-Some c = λ t x sight can same all. let p = c.args.self.now.world.under.rows.now in IfOk-weaker c.creation.result _ _
    (λ a h. creation_looked p t (HasConstantForm p t) c.args.place x c.args.arguments.now all _ (named_behind p t (entries c.args.self.now.world.under.table.now) c.args.place _ (c.named_type.ensures sight.few) same) c.in-Some.class c.in-Some.is a h)
    (c.creation.ensures t sight.world can)

pub returns-in-None : goal.returns-in-None
returns-in-None c = λ t x sight can same all. let p = c.args.self.now.world.under.rows.now in
    creation_none p t (HasConstantForm p t) c.args.place x c.args.arguments.now all _ (named_behind p t (entries c.args.self.now.world.under.table.now) c.args.place _ (c.named_type.ensures sight.few) same) c.in-None.is
