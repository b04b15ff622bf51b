use Rattle.std.proofs.Common.{arith}
use Rattle.std.proofs.lemmas.List.{drop_more, drop_all}
use Rattle.jr_report.specs.Listed.{rows_in, table_in}
use Rattle.jr_report.proofs.Finding.{search_first, search_next, search_now, search_end}
use Rattle.jr_report.proofs.called.is_found_in.Goals as goal

pub loop-class-init : goal.loop-class-init
loop-class-init c = λ whole. search_first (rows_in c.args.world.now) (table_in c.args.world.now) c.args.other c.args.method c.args.classes.now

pub loop-class-preserved : goal.loop-class-preserved
loop-class-preserved c = λ whole. search_next (rows_in c.args.world.now) (table_in c.args.world.now) c.args.other c.args.method c.args.classes.now _ _ _ _ (drop_more c.args.classes.now c.loop-class.class-index _ (omega arith))
    c.if-is_found.false (c.in_ok-is_found.ensures whole) (c.loop-class.invariant whole)

pub returns-then-is_found : goal.returns-then-is_found
returns-then-is_found c = λ whole. search_now (rows_in c.args.world.now) (table_in c.args.world.now) c.args.other c.args.method c.args.classes.now _ _ _ _ (drop_more c.args.classes.now c.loop-class.class-index _ (omega arith))
    c.if-is_found.true (c.in_ok-is_found.ensures whole) (c.loop-class.invariant whole)

pub returns : goal.returns
returns c = λ whole. search_end (rows_in c.args.world.now) (table_in c.args.world.now) c.args.other c.args.method c.args.classes.now _ (drop_all c.loop-class.class-index c.args.classes.now (omega arith)) (c.loop-class.invariant whole)
