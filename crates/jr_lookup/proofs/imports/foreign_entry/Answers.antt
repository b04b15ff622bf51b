use Rattle.jr_lookup.proofs.Importing.{foreign_here, foreign_else}
use Rattle.jr_lookup.proofs.imports.foreign_entry.Goals as goal

pub returns-then-is_of_unit : goal.returns-then-is_of_unit
returns-then-is_of_unit c = λ p places local lt. foreign_here p c.args.unit c.args.row _ (c.is_of_unit.ensures p places local) c.if-is_of_unit.true

pub returns : goal.returns
returns c = λ p places local lt. foreign_else p c.args.unit c.args.row _ _ (c.is_of_unit.ensures p places local) c.if-is_of_unit.false (c.name-second.ensures p places lt)
