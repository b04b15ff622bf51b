use Rattle.std.proofs.Common.{arith}
use Rattle.std.proofs.lemmas.List.{drop_more, drop_all}
use Rattle.jr_report.specs.Reports.{place_line}
use Rattle.jr_report.proofs.Texts.{lines_more, lines_end}
use Rattle.jr_report.proofs.lines.add_places.Goals as goal

pub loop-place-preserved : goal.loop-place-preserved
loop-place-preserved c = lines_more (place_line c.args.units.now) _ _ _ c.args.places.now _ _ _ (drop_more c.args.places.now c.loop-place.place-index _ (omega arith)) c.in_ok-add_place.ensures c.loop-place.invariant

pub returns : goal.returns
returns c = lines_end (place_line c.args.units.now) _ _ c.args.places.now _ (drop_all c.loop-place.place-index c.args.places.now (omega arith)) c.loop-place.invariant
