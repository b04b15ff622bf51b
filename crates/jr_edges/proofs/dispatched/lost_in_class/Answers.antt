use Rattle.jr_edges.proofs.Losing.{no_class, class_told_so}
use Rattle.jr_edges.proofs.dispatched.lost_in_class.Goals as goal

pub returns-then-not-is_class : goal.returns-then-not-is_class
returns-then-not-is_class c = λ t u old locked. no_class c.args.locked.under.rows.now u c.args.copy.now c.args.old.under.rows.now t c.args.class c.is_class.result c.is_class.ensures c.if-not-is_class.true

pub returns : goal.returns
returns c = λ t u old locked. class_told_so c.args.locked.under.rows.now u c.args.copy.now c.args.old.under.rows.now t c.args.class old.supers.well _ _ c.first_lost.result (c.in_ok-all.ensures t old) c.deref.ensures.value
    (c.first_lost.ensures u locked)
