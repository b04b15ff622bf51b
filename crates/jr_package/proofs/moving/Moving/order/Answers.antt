use Rattle.std.proofs.Common.{arith, length}
use Rattle.jr_package.proofs.Steps.{merged_more, merged_all}
use Rattle.jr_package.proofs.moving.Moving.order.Goals as goal

pub loop-unit-preserved : goal.loop-unit-preserved
loop-unit-preserved c = λ ordered. let count = c.count_units-unit-end.ensures ordered in
    merged_more c.args.self.now.named.now.marks.now c.args.self.now.folder.now c.args.self.now.named.now.from.now c.args.moved.now c.loop-unit.unit _ _ (omega arith) (c.loop-unit.invariant ordered)
    (c.in_ok-left.ensures ordered (omega arith))

pub returns : goal.returns
returns c = λ ordered. let count = c.count_units-unit-end.ensures ordered in let two = ordered.prelude in
    merged_all c.args.self.now.named.now.marks.now c.args.self.now.folder.now c.args.self.now.named.now.from.now c.args.moved.now c.loop-unit.unit (length c.args.self.now.named.now.marks.now.units.now) _ _ (omega arith)
    (c.loop-unit.invariant ordered) c.in_ok-extend_from_slice.ensures.items
