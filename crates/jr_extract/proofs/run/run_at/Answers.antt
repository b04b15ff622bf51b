use Rattle.jr_extract.proofs.Taking.{run_none, run_some}
use Rattle.jr_extract.proofs.run.run_at.Goals as goal

pub returns-in-Some : goal.returns-in-Some
returns-in-Some c = λ ordered lt. run_some c.args.marks.now c.args.unit c.args.range c.tokens_of.result.now ordered c.tokens_of.ensures c.in-Some.tokens c.statement_at.result c.run_from.result c.in-Some.ensures (c.statement_at.ensures ordered lt) (c.run_from.ensures ordered)

pub returns-in-None : goal.returns-in-None
returns-in-None c = λ ordered lt. run_none c.args.marks.now c.args.unit c.args.range c.tokens_of.result.now ordered c.tokens_of.ensures c.in-None.ensures
