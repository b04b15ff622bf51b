use Rattle.std.proofs.Common.{arith}
use Rattle.std.proofs.lemmas.List.{drop_more, drop_all}
use Rattle.jr_lookup.proofs.Sighting.{push_on, push_out}
use Rattle.jr_lookup.proofs.simple.add_all.Goals as goal

pub loop-at-preserved : goal.loop-at-preserved
loop-at-preserved c = push_on _ _ _ _ _ _ (drop_more c.args.more.now c.loop-at.at-index 0 (omega arith)) c.in_ok-push.ensures.items c.loop-at.invariant

pub returns : goal.returns
returns c = push_out _ _ _ (drop_all c.loop-at.at-index c.args.more.now (omega arith)) c.loop-at.invariant
