use Rattle.std.proofs.Common.{arith}
use Rattle.jr_lookup.proofs.Ordering.{last_start, last_step}
use Rattle.jr_lookup.proofs.choice.last_with.Goals as goal

pub loop-nth-init : goal.loop-nth-init
loop-nth-init c = λ t h. last_start c.args.world.under.rows.now t c.args.direct.now c.args.at

pub loop-nth-preserved : goal.loop-nth-preserved
loop-nth-preserved c = λ t h. last_step c.args.world.under.rows.now t c.args.direct.now c.args.at c.loop-nth.nth _ _ _ _ (omega arith) (c.in_ok-has.ensures t h) c.later-found.ensures (c.loop-nth.invariant t h)
