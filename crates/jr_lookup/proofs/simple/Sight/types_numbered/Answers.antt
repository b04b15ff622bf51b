use Rattle.std.proofs.lemmas.Result.{IfOk-weaker}
use Rattle.jr_lookup.proofs.Demanding.{spelled_some, spelled_nowhere}
use Rattle.jr_lookup.proofs.simple.Sight.types_numbered.Goals as goal

pub returns-in-Some : goal.returns-in-Some
returns-in-Some c = λ t n sight f. let p = c.args.self.now.world.under.rows.now in let places = c.args.self.now.world.under.places.now in let placed = sight.world.seen.placed in
    IfOk-weaker c.types_of_package.result _ _ (λ found is. spelled_some p places placed n c.args.name c.in-Some.package c.args.number f c.in-Some.is found.items is) (c.types_of_package.ensures p places sight.tops)

pub returns-in-None : goal.returns-in-None
returns-in-None c = λ t n sight f. let p = c.args.self.now.world.under.rows.now in let places = c.args.self.now.world.under.places.now in let placed = sight.world.seen.placed in
    spelled_nowhere p places placed n c.args.name c.args.number f c.in-None.is _ c.new.ensures.items
