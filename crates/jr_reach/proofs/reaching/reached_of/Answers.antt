use Rattle.std.proofs.Common.{length}
use Rattle.jr_reach.specs.Statements.{later}
use Rattle.jr_reach.proofs.Tables.{one_reached}
use Rattle.jr_reach.proofs.reaching.reached_of.Goals as goal

pub loop-n-preserved : goal.loop-n-preserved
loop-n-preserved c = one_reached c.args.rows.now c.args.facts.now (later (length c.args.rows.now) c.args.all.now) c.loop-n.n c.loop-n.found.items _ _ _ c.loop-n.invariant c.deref.ensures.value c.is_reached-made.ensures c.in_ok-push.ensures.items
