use Rattle.jr_pullup.proofs.Raising.{one_edited}
use Rattle.jr_pullup.proofs.pulling.add_one.Goals as goal

pub returns-then-is_edited-clause-ok : goal.returns-then-is_edited-clause-ok
returns-then-is_edited-clause-ok c = one_edited c.args.marks.now c.args.pulled c.args.span c.args.unit c.args.draft.now c.add_edited.new.draft c.add_edited.result c.is_edited.result c.is_edited.ensures c.if-is_edited.true c.add_edited.ensures.ok
