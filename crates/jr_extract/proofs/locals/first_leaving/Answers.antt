use Rattle.std.proofs.Common.{arith}
use Rattle.std.proofs.lemmas.List.{drop_more, drop_all}
use Rattle.jr_extract.specs.Handing.{leaving_by}
use Rattle.jr_extract.proofs.Found.{lowest_end, lowest_next}
use Rattle.jr_extract.proofs.locals.first_leaving.Goals as goal

pub loop-pair-preserved : goal.loop-pair-preserved
loop-pair-preserved c = lowest_next (leaving_by c.args.points.now c.args.run) _ _ _ _ _ _ _ (drop_more c.args.pairs.now c.loop-pair.pair-index _ (omega arith)) c.leaving_by.ensures c.lower-first.ensures c.loop-pair.invariant

pub returns : goal.returns
returns c = lowest_end (leaving_by c.args.points.now c.args.run) _ _ _ (drop_all c.loop-pair.pair-index c.args.pairs.now (omega arith)) c.loop-pair.invariant
