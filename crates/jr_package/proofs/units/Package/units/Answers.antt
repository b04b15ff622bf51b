use Rattle.std.proofs.Common.{arith, length}
use Rattle.jr_package.specs.Repackaging.{is_of, is_moved}
use Rattle.jr_package.proofs.Steps.{such_step, such_all}
use Rattle.jr_package.proofs.units.Package.units.Goals as goal

pub loop-unit-preserved : goal.loop-unit-preserved
loop-unit-preserved c = λ ordered. let count = c.count_units-unit-end.ensures ordered in
    such_step 2 (is_of c.args.self.now.marks.now c.args.self.now.from.now) c.loop-unit.unit _ _ _ (omega arith) (c.loop-unit.invariant ordered) (c.in_ok-has.ensures ordered (omega arith)) c.in_ok-push_if.ensures

pub returns : goal.returns
returns c = λ ordered. let count = c.count_units-unit-end.ensures ordered in let two = ordered.prelude in
    such_all (is_moved c.args.self.now.marks.now c.args.self.now.from.now) c.loop-unit.unit (length c.args.self.now.marks.now.units.now) _ (omega arith) (c.loop-unit.invariant ordered)
