use Rattle.std.proofs.Common.{[]}
use Rattle.jr_expressions.proofs.Joined.{stacks_are}
use Rattle.jr_elab.proofs.statements.Making.new.Goals as goal

pub returns-clause-empty : goal.returns-clause-empty
returns-clause-empty c = stacks_are [] c.new-codes.ensures c.new-labels.ensures c.new-groups.ensures c.new-catches.ensures
