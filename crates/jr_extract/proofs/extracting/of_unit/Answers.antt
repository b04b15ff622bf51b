use Rattle.jr_extract.proofs.Extending.{named_none, named_range}
use Rattle.jr_extract.proofs.extracting.of_unit.Goals as goal

pub returns-then-is_identifier : goal.returns-then-is_identifier
returns-then-is_identifier c = λ ordered lt. named_range c.args.old.now c.args.range c.args.name.now c.args.unit c.is_identifier.result c.of_range.result c.is_identifier.ensures c.if-is_identifier.true (c.of_range.ensures ordered lt)

pub returns-else-is_identifier : goal.returns-else-is_identifier
returns-else-is_identifier c = λ ordered lt. named_none c.args.old.now c.args.range c.args.name.now c.args.unit c.is_identifier.result c.is_identifier.ensures c.if-is_identifier.false
