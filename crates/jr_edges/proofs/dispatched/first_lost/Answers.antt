use Rattle.std.proofs.Common.{arith, ◌+◌, drop}
use Rattle.std.proofs.lemmas.List.{drop_more, drop_all}
use Rattle.jr_edges.proofs.Losing.{lost_here, lost_later, lost_none}
use Rattle.jr_edges.proofs.dispatched.first_lost.Goals as goal

pub loop-before-init : goal.loop-before-init
loop-before-init c = λ t are found h. h

pub loop-before-preserved : goal.loop-before-preserved
loop-before-preserved c = λ t are. lost_later c.args.locked.under.rows.now t c.args.copy.now c.args.all.now (drop c.loop-before.before-index c.args.all.now) (drop (c.loop-before.before-index + 1) c.args.all.now) _ _
    (drop_more c.args.all.now c.loop-before.before-index _ (omega arith)) (c.loop-before.invariant t are) (c.in_ok-is_kept.ensures t are) c.if-not-branch.false

pub returns-then-not-branch : goal.returns-then-not-branch
returns-then-not-branch c = λ t are. lost_here c.args.locked.under.rows.now t c.args.copy.now c.args.all.now (drop c.loop-before.before-index c.args.all.now) (drop (c.loop-before.before-index + 1) c.args.all.now) _ _
    (drop_more c.args.all.now c.loop-before.before-index _ (omega arith)) (c.loop-before.invariant t are) (c.in_ok-is_kept.ensures t are) c.if-not-branch.true

pub returns : goal.returns
returns c = λ t are. lost_none c.args.locked.under.rows.now t c.args.copy.now c.args.all.now (drop c.loop-before.before-index c.args.all.now) (drop_all c.loop-before.before-index c.args.all.now (omega arith)) (c.loop-before.invariant t are)
