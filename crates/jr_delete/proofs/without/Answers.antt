use Rattle.std.proofs.Common.{arith, length}
use Rattle.jr_delete.proofs.Answering.{left_more, left_all}
use Rattle.jr_delete.proofs.without.Goals as goal

pub loop-unit-preserved : goal.loop-unit-preserved
loop-unit-preserved c = λ ordered. let count = c.count_units-unit-end.ensures ordered in
    left_more c.args.marks.now c.args.removal.rows c.args.removal.span c.loop-unit.unit _ _ (omega arith) (c.loop-unit.invariant ordered) (c.in_ok-add_left.ensures.ok ordered (omega arith))

pub returns-clause-ok : goal.returns-clause-ok
returns-clause-ok c = λ ordered. let count = c.count_units-unit-end.ensures ordered in let two = ordered.prelude in
    left_all c.args.marks.now c.args.removal.rows c.args.removal.span c.loop-unit.unit (length c.args.marks.now.units.now) _ _ (omega arith) (c.loop-unit.invariant ordered) c.finish_as.ensures
