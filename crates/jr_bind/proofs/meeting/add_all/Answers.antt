use Rattle.std.proofs.Common.{arith}
use Rattle.std.proofs.lemmas.List.{drop_more, drop_all}
use Rattle.jr_lookup.proofs.Sighting.{push_on, push_out}
use Rattle.jr_bind.proofs.meeting.add_all.Goals as goal

pub loop-row-preserved : goal.loop-row-preserved
loop-row-preserved c = push_on _ _ _ _ _ _ (drop_more c.args.more.now c.loop-row.row-index 0 (omega arith)) c.in_ok-push.ensures.items c.loop-row.invariant

pub returns : goal.returns
returns c = push_out _ _ _ (drop_all c.loop-row.row-index c.args.more.now (omega arith)) c.loop-row.invariant
