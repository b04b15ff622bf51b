use Rattle.std.proofs.Common.{arith, length}
use Rattle.jr_pullup.proofs.Raising.{raised_all, raised_more}
use Rattle.jr_pullup.proofs.pulling.draft_raised.Goals as goal

pub loop-unit-preserved : goal.loop-unit-preserved
loop-unit-preserved c = λ ordered within. raised_more c.args.marks.now c.args.pulled c.args.span c.loop-unit.unit _ _ (omega arith) (c.loop-unit.invariant ordered within) (c.in_ok-add_one.ensures.ok ordered within)

pub returns-clause-ok : goal.returns-clause-ok
returns-clause-ok c = λ ordered within. let count = c.count_units-unit-end.ensures ordered in let two = ordered.prelude in
    raised_all c.args.marks.now c.args.pulled c.args.span c.loop-unit.unit (length c.args.marks.now.units.now) _ (omega arith) (c.loop-unit.invariant ordered within)
