use Rattle.std.proofs.Common.{◌-◌, ap, arith}
use Rattle.jr_marks.specs.Order.{itself}
use Rattle.jr_marks.proofs.Firsts.{gathered_more}
use Rattle.jr_marks.proofs.order.push_name.Goals as goal

pub loop-back-preserved : goal.loop-back-preserved
loop-back-preserved c = gathered_more (λ back. itself c.args.rows.now (c.args.end - back - 1)) c.loop-back.back _ _ _ _ c.loop-back.invariant c.in_ok-push_occurrence.ensures
    (ap (itself c.args.rows.now) (omega arith))
