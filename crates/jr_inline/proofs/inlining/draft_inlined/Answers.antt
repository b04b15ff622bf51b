use Rattle.std.proofs.Common.{arith, length}
use Rattle.jr_inline.specs.Inlining.{plan_by}
use Rattle.jr_inline.proofs.Stepping.{units_all, units_more}
use Rattle.jr_inline.proofs.inlining.draft_inlined.Goals as goal

pub loop-unit-preserved : goal.loop-unit-preserved
loop-unit-preserved c = λ ordered. units_more c.args.marks.now (plan_by c.args.inlining.now) c.loop-unit.unit _ _ (omega arith) (c.loop-unit.invariant ordered) (c.in_ok-add_one.ensures ordered)

pub returns : goal.returns
returns c = λ ordered. let count = c.count_units-unit-end.ensures ordered in let two = ordered.prelude in
    units_all c.args.marks.now (plan_by c.args.inlining.now) c.loop-unit.unit (length c.args.marks.now.units.now) _ (omega arith) (c.loop-unit.invariant ordered)
