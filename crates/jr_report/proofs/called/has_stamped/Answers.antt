use Rattle.std.proofs.Common.{arith}
use Rattle.std.proofs.lemmas.List.{drop_more, drop_all}
use Rattle.jr_report.specs.Listed.{rows_in}
use Rattle.jr_report.proofs.Gathering.{stamped_first, stamped_next, stamped_there, stamped_end}
use Rattle.jr_report.proofs.called.has_stamped.Goals as goal

pub loop-method-init : goal.loop-method-init
loop-method-init c = stamped_first (rows_in c.args.world.now) c.args.called.now c.args.methods.now

pub loop-method-preserved : goal.loop-method-preserved
loop-method-preserved c = stamped_next (rows_in c.args.world.now) c.args.called.now c.args.methods.now _ _ _ _ (drop_more c.args.methods.now c.loop-method.method-index _ (omega arith)) c.if-is_shown_by.false c.is_shown_by.ensures c.loop-method.invariant

pub returns-then-is_shown_by : goal.returns-then-is_shown_by
returns-then-is_shown_by c = stamped_there (rows_in c.args.world.now) c.args.called.now c.args.methods.now _ _ _ _ (drop_more c.args.methods.now c.loop-method.method-index _ (omega arith)) c.if-is_shown_by.true c.is_shown_by.ensures c.loop-method.invariant

pub returns : goal.returns
returns c = stamped_end (rows_in c.args.world.now) c.args.called.now c.args.methods.now _ (drop_all c.loop-method.method-index c.args.methods.now (omega arith)) c.loop-method.invariant
