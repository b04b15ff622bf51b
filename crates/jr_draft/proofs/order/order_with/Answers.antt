use Rattle.std.proofs.Common.{arith, length}
use Rattle.jr_draft.proofs.Building.{placed_more, placed_all}
use Rattle.jr_draft.proofs.order.order_with.Goals as goal

pub loop-unit-preserved : goal.loop-unit-preserved
loop-unit-preserved c = placed_more c.args.marks.now c.args.moved c.args.path.now c.loop-unit.unit _ _ (omega arith) c.loop-unit.invariant c.in_ok-is_placed.ensures

pub returns : goal.returns
returns c = λ ordered. let count = c.count_units-unit-end.ensures ordered in let two = ordered.prelude in
    placed_all c.args.marks.now c.args.moved c.args.path.now c.loop-unit.unit (length c.args.marks.now.units.now) _ _ (omega arith) c.loop-unit.invariant c.in_ok-place_last.ensures
