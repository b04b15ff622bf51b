use Rattle.jr_elab.proofs.Made.{settled_makes}
use Rattle.jr_elab.proofs.statements.make.Goals as goal

pub returns-then-is_settled-clause-made : goal.returns-then-is_settled-clause-made
returns-then-is_settled-clause-made c = settled_makes _ c.end.ensures c.outside_of-outside.ensures c.in_ok-make_row.ensures.made (c.is_settled.ensures c.if-is_settled.true)
