use Rattle.jr_flow_faults.proofs.Arriving.{no_unchecked, no_general, unthrown_class}
use Rattle.jr_flow_faults.proofs.catches.Arrived.is_unthrown_class.Goals as goal

pub returns-then-not-is_checked : goal.returns-then-not-is_checked
returns-then-not-is_checked c = λ t above roots are. no_unchecked c.args.under.now.rows.now t c.args.self.now.thrown c.args.over c.args.class c.is_checked.result (c.is_checked.ensures t above roots) c.if-not-is_checked.true

pub returns-then-is_general : goal.returns-then-is_general
returns-then-is_general c = λ t above roots are. no_general c.args.under.now.rows.now t c.args.self.now.thrown c.args.over c.args.class c.args.roots roots c.is_general.result c.is_general.ensures c.if-is_general.true

pub returns : goal.returns
returns c = λ t above roots are. unthrown_class c.args.under.now.rows.now t c.args.self.now.thrown c.args.over c.args.class c.args.roots roots c.is_checked.result c.is_general.result c.in_ok-can.can
    (c.is_checked.ensures t above roots) c.if-not-is_checked.false c.is_general.ensures c.if-is_general.false (c.in_ok-can.ensures t above are)
