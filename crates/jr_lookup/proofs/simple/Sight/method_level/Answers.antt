use Rattle.std.proofs.lemmas.Result.{IfOk-weaker}
use Rattle.jr_lookup.proofs.Leveling.{level_found}
use Rattle.jr_lookup.proofs.simple.Sight.method_level.Goals as goal

pub returns : goal.returns
returns c = λ t x world number. IfOk-weaker c.innermost_with.result _ _ (λ found h. level_found c.args.self.now.world.under.rows.now t c.args.name x number c.args.place found h) (c.innermost_with.ensures t world)
