use Rattle.std.proofs.Common.{arith, refl, [], length}
use Rattle.jr_marks.proofs.Firsts.{gathered_more}
use Rattle.jr_package.specs.Repackaging.{names_of}
use Rattle.jr_package.proofs.Steps.{gathered_all}
use Rattle.jr_package.proofs.units.Package.names.Goals as goal

pub loop-unit-preserved : goal.loop-unit-preserved
loop-unit-preserved c = λ ordered. let count = c.count_units-unit-end.ensures ordered in
    gathered_more (names_of c.args.self.now.marks.now c.args.self.now.table.now c.args.self.now.from.now) c.loop-unit.unit [] _ _ _ (c.loop-unit.invariant ordered)
    (c.in_ok-add_names.ensures ordered (omega arith) (omega arith)) refl

pub returns : goal.returns
returns c = λ ordered. let count = c.count_units-unit-end.ensures ordered in let two = ordered.prelude in
    gathered_all (names_of c.args.self.now.marks.now c.args.self.now.table.now c.args.self.now.from.now) c.loop-unit.unit (length c.args.self.now.marks.now.units.now) _ (omega arith) (c.loop-unit.invariant ordered)
