use Rattle.std.proofs.Common.{◌∙◌, ap, ◌++◌, refl}
use Rattle.std.proofs.lemmas.Result.{on_ok_weaker}
use Rattle.jr_lookup.proofs.Demanding.{adds_singles, adds_no_singles}
use Rattle.jr_lookup.proofs.simple.Sight.add_singles.Goals as goal

pub returns-in_ok-types-in-Some : goal.returns-in_ok-types-in-Some
returns-in_ok-types-in-Some c = λ t sight. let p = c.args.self.now.world.under.rows.now in on_ok_weaker c.add_all.result
    (λ is. adds_singles p sight.world.seen.placed.local t c.args.place c.args.name c.in-Some.unit _ (c.importing_unit.ensures sight.world.seen.placed) c.in-Some.is c.args.all.now.items _ c.in_ok-types-in-Some.types.items
    (is ∙ ap (λ xs. c.args.all.now.items ++ xs) c.deref.ensures.value) (c.in_ok-types-in-Some.ensures p t sight.imports)) c.add_all.ensures

pub returns-in-None : goal.returns-in-None
returns-in-None c = λ t sight. adds_no_singles c.args.self.now.world.under.rows.now sight.world.seen.placed.local t c.args.place c.args.name _ (c.importing_unit.ensures sight.world.seen.placed) c.in-None.is _ _ refl
