use Rattle.std.proofs.lemmas.Result.{IfOk-weaker}
use Rattle.jr_lookup.proofs.Demanding.{spelled_some, spelled_nowhere}
use Rattle.jr_spell.specs.Spellers.{rows_of}
use Rattle.jr_spell.proofs.speller.Speller.types_beside.Goals as goal

pub returns-in-Some : goal.returns-in-Some
returns-in-Some c = λ whole lt. let s = c.args.self.now in let p = rows_of s in let places = s.view.now.sight.world.under.places.now in let sight = whole.sight_is in let placed = sight.world.seen.placed in
    IfOk-weaker c.types_of_package.result _ _ (λ found is. spelled_some p places placed c.args.row c.args.name c.in-Some.number _ (c.spelled.ensures placed.are placed.local placed.packages sight.few lt) c.in-Some.is found.items is) (c.types_of_package.ensures p places sight.tops)

pub returns-in-None : goal.returns-in-None
returns-in-None c = λ whole lt. let s = c.args.self.now in let p = rows_of s in let places = s.view.now.sight.world.under.places.now in let sight = whole.sight_is in let placed = sight.world.seen.placed in
    spelled_nowhere p places placed c.args.row c.args.name _ (c.spelled.ensures placed.are placed.local placed.packages sight.few lt) c.in-None.is _ c.new.ensures.items
