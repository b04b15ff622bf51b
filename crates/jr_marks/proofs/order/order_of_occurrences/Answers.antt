use Rattle.std.proofs.Common.{refl, []}
use Rattle.jr_marks.specs.Order.{turn}
use Rattle.jr_marks.proofs.Firsts.{gathered_more}
use Rattle.jr_marks.proofs.order.order_of_occurrences.Goals as goal

pub loop-at-preserved : goal.loop-at-preserved
loop-at-preserved c = gathered_more (turn c.args.rows.now) c.loop-at.at [] _ _ _ c.loop-at.invariant c.in_ok-push_turn.ensures refl
