use Rattle.std.proofs.Common.{refl}
use Rattle.std.proofs.lemmas.Result.{on_ok_weaker}
use Rattle.jr_lookup.proofs.Demanding.{adds_lang, adds_no_lang}
use Rattle.jr_lookup.proofs.simple.Sight.add_lang.Goals as goal

pub returns-in-Some : goal.returns-in-Some
returns-in-Some c = λ t sight. on_ok_weaker c.add_of_package.result
    (λ is. adds_lang c.args.self.now.world.under.rows.now c.args.self.now.world.under.places.now sight.world.seen.placed sight.lang c.args.unit c.args.name c.in-Some.number _ c.package.ensures c.in-Some.is c.args.all.now.items _ is) (c.add_of_package.ensures t sight)

pub returns-in-None : goal.returns-in-None
returns-in-None c = λ t sight. adds_no_lang c.args.self.now.world.under.rows.now c.args.self.now.world.under.places.now sight.world.seen.placed sight.lang c.args.unit c.args.name _ c.package.ensures c.in-None.is _ _ refl
