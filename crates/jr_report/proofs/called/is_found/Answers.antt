use Rattle.jr_report.specs.Listed.{rows_in, table_in}
use Rattle.jr_report.proofs.Finding.{tells_here, tells_by_class, tells_below}
use Rattle.jr_report.proofs.Referring.{if_ok_so}
use Rattle.jr_report.proofs.called.is_found.Goals as goal

pub returns-then-is_here : goal.returns-then-is_here
returns-then-is_here c = λ whole here below. tells_here (rows_in c.args.world.now) (table_in c.args.world.now) c.args.declaring c.args.other c.args.method here _ c.if-is_here.true (c.in_ok-is_here.ensures whole)

pub returns-then-is_by_class : goal.returns-then-is_by_class
returns-then-is_by_class c = λ whole here below. tells_by_class (rows_in c.args.world.now) (table_in c.args.world.now) c.args.declaring c.args.other c.args.method here _ _ c.if-is_here.false (c.in_ok-is_here.ensures whole)
    c.is_by_class.ensures c.if-is_by_class.true

pub returns : goal.returns
returns c = λ whole here below. if_ok_so c.is_found_in.result (λ r. tells_below (rows_in c.args.world.now) (table_in c.args.world.now) c.args.declaring c.args.other c.args.method here c.args.below.now _ r c.if-is_here.false (c.in_ok-is_here.ensures whole) below) (c.is_found_in.ensures whole)
