use Rattle.std.proofs.Common.{◌∙◌, sym, subst, ap, ap₂, arith, ◌<◌, ◌++◌, ◌∷◌, [], length, map}
use Rattle.std.proofs.lemmas.List.{map_more, take_all}
use Rattle.jr_places.specs.Places.{ArePlaces}
use Rattle.jr_places.specs.Names.{name_row}
use Rattle.jr_spell.specs.Spellers.{rows_of}
use Rattle.jr_spell.proofs.Suffixed.{all_at}
use Rattle.jr_spell.proofs.speller.Speller.numbers_of.Goals as goal

pub loop-row-init : goal.loop-row-init
loop-row-init c = λ whole within. c.new-all.ensures.items

pub loop-row-preserved : goal.loop-row-preserved
loop-row-preserved c = λ whole within. let p = rows_of c.args.self.now in
    let lt = all_at (λ n. n < length p) c.args.at.now c.loop-row.row-index _ within (omega arith) in
    c.in_ok-push.ensures.items
    ∙ ap₂ (λ xs x. xs ++ x ∷ []) (c.loop-row.invariant whole within) (c.name.ensures p (subst (ArePlaces p) (sym c.places.ensures) whole.sight_is.world.seen.placed.are) lt)
    ∙ sym (map_more (λ n. name_row p n) c.args.at.now c.loop-row.row-index _ (omega arith))

pub returns : goal.returns
returns c = λ whole within. c.loop-row.invariant whole within ∙ ap (map (λ n. name_row (rows_of c.args.self.now) n)) (take_all c.loop-row.row-index c.args.at.now (omega arith))
