use Rattle.std.proofs.Common.{arith, length}
use Rattle.jr_extract.specs.Writing.{extracted}
use Rattle.jr_extract.proofs.Extending.{extended_all, extended_more, extended_start}
use Rattle.jr_extract.proofs.extracting.add_units.Goals as goal

pub loop-unit-init : goal.loop-unit-init
loop-unit-init c = λ ordered within begun. extended_start c.args.marks.now (extracted c.args.added.now) c.args.draft.now begun

pub loop-unit-preserved : goal.loop-unit-preserved
loop-unit-preserved c = λ ordered within begun. extended_more c.args.marks.now (extracted c.args.added.now) c.loop-unit.unit _ _ (omega arith) (c.loop-unit.invariant ordered within begun) (c.in_ok-placed.ensures.ok ordered within)

pub returns-clause-ok : goal.returns-clause-ok
returns-clause-ok c = λ ordered within begun. let count = c.count_units-unit-end.ensures ordered in let two = ordered.prelude in
    extended_all c.args.marks.now (extracted c.args.added.now) c.loop-unit.unit (length c.args.marks.now.units.now) _ (omega arith) (c.loop-unit.invariant ordered within begun)
