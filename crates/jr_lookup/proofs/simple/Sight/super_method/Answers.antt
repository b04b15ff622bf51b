use Rattle.std.proofs.lemmas.Result.{IfOk-weaker}
use Rattle.jr_defs.specs.Constants.{HasConstantForm}
use Rattle.jr_lookup.proofs.Looking.{super_method_looked, super_method_none}
use Rattle.jr_lookup.proofs.simple.Sight.super_method.Goals as goal

pub returns-in-Some : goal.returns-in-Some
returns-in-Some c = λ t x world can number all. let p = c.args.self.now.world.under.rows.now in IfOk-weaker c.method_of.result _ _
    (λ a h. super_method_looked p t (HasConstantForm p t) c.args.place x c.args.arguments.now all _ (c.super_before.ensures t world) c.in-Some.class c.in-Some.is a h) (c.method_of.ensures t x world can number)

pub returns-in-None : goal.returns-in-None
returns-in-None c = λ t x world can number all. let p = c.args.self.now.world.under.rows.now in
    super_method_none p t (HasConstantForm p t) c.args.place x c.args.arguments.now all _ (c.super_before.ensures t world) c.in-None.is
