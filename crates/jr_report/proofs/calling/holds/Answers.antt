use Rattle.std.proofs.Common.{arith}
use Rattle.jr_report.proofs.Seeking.{none_yet, none_more, holds_now, holds_none}
use Rattle.jr_report.proofs.calling.holds.Goals as goal

pub loop-at-init : goal.loop-at-init
loop-at-init c = λ few. none_yet c.args.view.now c.args.sought.called.now c.args.sought.is_to_string c.args.first

pub loop-at-preserved : goal.loop-at-preserved
loop-at-preserved c = λ few. none_more c.args.view.now c.args.sought.called.now c.args.sought.is_to_string c.args.first c.loop-at.at _ (c.loop-at.invariant few) c.if-is_sought.false (let lt = c.loop-at-test.true in c.is_sought.ensures (omega (arith, lt, few)))

pub returns-then-is_sought : goal.returns-then-is_sought
returns-then-is_sought c = λ few. holds_now c.args.view.now c.args.sought.called.now c.args.sought.is_to_string c.args.first c.loop-at.at c.args.end _ (omega arith) c.loop-at-test.true c.if-is_sought.true (let lt = c.loop-at-test.true in c.is_sought.ensures (omega (arith, lt, few)))

pub returns : goal.returns
returns c = λ few. holds_none c.args.view.now c.args.sought.called.now c.args.sought.is_to_string c.args.first c.loop-at.at c.args.end c.loop-at-test.false (c.loop-at.invariant few)
