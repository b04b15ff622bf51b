use Rattle.std.proofs.Common.{◌≡◌, sym, subst, arith, true, false, Decides}
use Rattle.std.proofs.lemmas.List.{drop_more, drop_all}
use Rattle.std.proofs.lemmas.Bool.{false≢true}
use Rattle.jr_members.specs.Worlds.{IsReplacedBy}
use Rattle.jr_members.proofs.Each.{item_in}
use Rattle.jr_members.proofs.Objects.{left_not, left_end, left_next, told_false}
use Rattle.jr_members.proofs.members.World.is_left_above.Goals as goal

pub loop-over-init : goal.loop-over-init
loop-over-init c = λ t h method s at k. at

pub returns-then-is_replaced : goal.returns-then-is_replaced
returns-then-is_replaced c = λ t h method. let p = c.args.self.under.rows.now in
    left_not p t c.args.above.now c.args.at _ (item_in c.args.above.now c.loop-over.over-index 0 (omega arith)) ((c.in_ok-is_replaced.ensures t h method).0 c.if-is_replaced.true)

pub loop-over-preserved : goal.loop-over-preserved
loop-over-preserved c = λ t h method. let p = c.args.self.under.rows.now in
    left_next p t c.args.above.now _ _ c.args.at _ (drop_more c.args.above.now c.loop-over.over-index 0 (omega arith)) (told_false (c.in_ok-is_replaced.ensures t h method) c.if-is_replaced.false) (c.loop-over.invariant t h method)

pub returns : goal.returns
returns c = λ t h method. left_end c.args.self.under.rows.now t c.args.above.now _ c.args.at (drop_all c.loop-over.over-index c.args.above.now (omega arith)) (c.loop-over.invariant t h method)
