use Rattle.std.proofs.Common.{arith, subst}
use Rattle.jr_edges.specs.Dispatched.{IsClassTold}
use Rattle.jr_edges.proofs.Losing.{one_more, lost_there}
use Rattle.jr_edges.proofs.dispatched.lost_before.Goals as goal

pub loop-class-init : goal.loop-class-init
loop-class-init c = λ t u old locked k lt. absurd (omega arith)

pub loop-class-preserved : goal.loop-class-preserved
loop-class-preserved c = λ t u old locked. one_more c.args.locked.under.rows.now u c.args.copy.now c.args.old.under.rows.now t c.loop-class.class (c.loop-class.invariant t u old locked)
    (subst (λ o. IsClassTold c.args.locked.under.rows.now u c.args.copy.now c.args.old.under.rows.now t c.loop-class.class o) c.in_default.is (c.in_ok-lost.ensures t u old locked))

pub returns-in-Some : goal.returns-in-Some
returns-in-Some c = λ t u old locked. lost_there c.args.locked.under.rows.now u c.args.copy.now c.args.old.under.rows.now t c.loop-class.class c.in-Some.lost (c.loop-class.invariant t u old locked)
    (subst (λ o. IsClassTold c.args.locked.under.rows.now u c.args.copy.now c.args.old.under.rows.now t c.loop-class.class o) c.in-Some.is (c.in_ok-lost.ensures t u old locked))

pub returns : goal.returns
returns c = λ t u old locked k lt. c.loop-class.invariant t u old locked k (omega arith)
