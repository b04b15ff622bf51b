use Rattle.std.proofs.Common.{arith, ◌+◌, get_or, drop}
use Rattle.std.proofs.lemmas.List.{drop_more, drop_all}
use Rattle.jr_headed.proofs.Placed.{passing_none, passing_one, passing_fails, passing_all}
use Rattle.jr_headed.proofs.cycles.are_behind.Goals as goal

pub loop-at-init : goal.loop-at-init
loop-at-init c = λ none. passing_none c.args.rows.now c.args.supers.now c.args.order.now c.args.passed.now none

pub loop-at-preserved : goal.loop-at-preserved
loop-at-preserved c = λ none. passing_one c.args.rows.now c.args.supers.now c.args.order.now (drop c.loop-at.at-index c.args.order.now) (drop (c.loop-at.at-index + 1) c.args.order.now)
    (get_or c.args.order.now c.loop-at.at-index 0) c.loop-at.passed c.add.new.self _ c.add.result (drop_more c.args.order.now c.loop-at.at-index 0 (omega arith)) (c.loop-at.invariant none)
    c.in_ok-is_behind.ensures c.if-not-branch.false c.add.ensures

pub returns-then-not-branch : goal.returns-then-not-branch
returns-then-not-branch c = λ none. passing_fails c.args.rows.now c.args.supers.now c.args.order.now (drop c.loop-at.at-index c.args.order.now) (drop (c.loop-at.at-index + 1) c.args.order.now)
    (get_or c.args.order.now c.loop-at.at-index 0) c.loop-at.passed _ (drop_more c.args.order.now c.loop-at.at-index 0 (omega arith)) (c.loop-at.invariant none) c.in_ok-is_behind.ensures c.if-not-branch.true

pub returns : goal.returns
returns c = λ none. passing_all c.args.rows.now c.args.supers.now c.args.order.now (drop c.loop-at.at-index c.args.order.now) c.loop-at.passed (drop_all c.loop-at.at-index c.args.order.now (omega arith)) (c.loop-at.invariant none)
