use Rattle.std.proofs.lemmas.Result.{IfOk-weaker}
use Rattle.jr_defs.specs.Constants.{HasConstantForm}
use Rattle.jr_lookup.proofs.Looking.{method_of_looked, method_of_none}
use Rattle.jr_lookup.proofs.simple.Sight.method_at.Goals as goal

pub returns-in-Some : goal.returns-in-Some
returns-in-Some c = λ t x k number all. let p = c.args.self.now.world.under.rows.now in IfOk-weaker c.method_of.result _ _
    (λ a h. method_of_looked p t (HasConstantForm p t) c.args.place x c.args.arguments.now all _ (c.receiver_at.ensures t k) c.in-Some.receiver c.in-Some.is a h) (c.method_of.ensures t x k.sight_is.world k.can number)

pub returns-in-None : goal.returns-in-None
returns-in-None c = λ t x k number all. let p = c.args.self.now.world.under.rows.now in
    method_of_none p t (HasConstantForm p t) c.args.place x c.args.arguments.now all _ (c.receiver_at.ensures t k) c.in-None.is
