use Rattle.jr_extract.specs.Writing.{extracted}
use Rattle.jr_extract.proofs.Extending.{one_edited}
use Rattle.jr_extract.proofs.extracting.add_one.Goals as goal

pub returns-then-is_extended-clause-ok : goal.returns-then-is_extended-clause-ok
returns-then-is_extended-clause-ok c = one_edited c.args.marks.now (extracted c.args.added.now) c.args.unit c.args.draft.now c.add_edited.new.draft c.args.placed c.add_edited.result c.is_extended.result c.is_extended.ensures c.if-is_extended.true c.add_edited.ensures.ok
