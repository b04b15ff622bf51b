use Rattle.std.proofs.Common.{◌∙◌, ap, arith, ◌++◌}
use Rattle.std.proofs.lemmas.List.{drop_more, drop_all}
use Rattle.jr_extract.specs.Handing.{entering_by, listed, listed_by}
use Rattle.jr_extract.proofs.Adding.{flat_end, flat_next}
use Rattle.jr_extract.proofs.locals.all_entering.Goals as goal

pub loop-pair-preserved : goal.loop-pair-preserved
loop-pair-preserved c = flat_next (listed_by (entering_by c.args.points.now c.args.run)) _ _ _ _ _ _ (drop_more c.args.pairs.now c.loop-pair.pair-index _ (omega arith))
    (c.in_ok-push_found.ensures ∙ ap (λ found. c.loop-pair.all.items ++ listed found) c.entering_by.ensures) c.loop-pair.invariant

pub returns : goal.returns
returns c = flat_end (listed_by (entering_by c.args.points.now c.args.run)) _ _ _ (drop_all c.loop-pair.pair-index c.args.pairs.now (omega arith)) c.loop-pair.invariant
