use Rattle.jr_names.proofs.Moved.{moved_same, moved_other}
use Rattle.jr_names.proofs.moving.moved.Goals as goal

pub returns-then-is_there-clause-ok : goal.returns-then-is_there-clause-ok
returns-then-is_there-clause-ok c = moved_same c.args.marks.now c.args.row c.args.named.now _ _ _ c.head_over-head.ensures.head c.head_over-head.ensures.declared c.in_ok-is_there.ensures c.if-is_there.true c.unchanged_all.ensures.ok

pub returns-else-is_there-clause-ok : goal.returns-else-is_there-clause-ok
returns-else-is_there-clause-ok c = moved_other c.args.marks.now c.args.row c.args.named.now _ _ _ c.head_over-head.ensures.head c.head_over-head.ensures.declared c.head_over-head.ensures.fits c.in_ok-is_there.ensures c.if-is_there.false
    c.moved_away.ensures.ok
