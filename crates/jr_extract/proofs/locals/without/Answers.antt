use Rattle.std.proofs.Common.{arith}
use Rattle.std.proofs.lemmas.List.{drop_more, drop_all}
use Rattle.jr_extract.specs.Handing.{other_of}
use Rattle.jr_extract.proofs.Adding.{flat_end, flat_next}
use Rattle.jr_extract.proofs.locals.without.Goals as goal

pub loop-row-preserved : goal.loop-row-preserved
loop-row-preserved c = flat_next (other_of c.args.others.now) _ _ _ _ _ _ (drop_more c.args.locals.now c.loop-row.row-index _ (omega arith)) c.in_ok-push_other.ensures c.loop-row.invariant

pub returns : goal.returns
returns c = flat_end (other_of c.args.others.now) _ _ _ (drop_all c.loop-row.row-index c.args.locals.now (omega arith)) c.loop-row.invariant
