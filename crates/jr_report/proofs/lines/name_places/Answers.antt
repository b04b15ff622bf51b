use Rattle.std.proofs.Common.{◌∙◌, arith, ap, ◌∷◌, [], ◌++◌, map}
use Rattle.std.proofs.lemmas.List.{drop_more, drop_all}
use Rattle.jr_marks.specs.Places.{place_of_name}
use Rattle.jr_report.proofs.Texts.{map_more, map_end}
use Rattle.jr_report.proofs.lines.name_places.Goals as goal

pub loop-row-init : goal.loop-row-init
loop-row-init c = λ ordered. ap (λ xs. xs ++ map (place_of_name c.args.marks.now) c.args.rows.now) c.new-all.ensures.items

pub loop-row-preserved : goal.loop-row-preserved
loop-row-preserved c = λ ordered. map_more (place_of_name c.args.marks.now) _ _ c.args.rows.now _ _ _ (drop_more c.args.rows.now c.loop-row.row-index _ (omega arith))
    (c.in_ok-push.ensures.items ∙ ap (λ x. c.loop-row.all.items ++ x ∷ []) (c.name_place.ensures ordered)) (c.loop-row.invariant ordered)

pub returns : goal.returns
returns c = λ ordered. map_end (place_of_name c.args.marks.now) _ c.args.rows.now _ (drop_all c.loop-row.row-index c.args.rows.now (omega arith)) (c.loop-row.invariant ordered)
