use Rattle.jr_extract.proofs.Extending.{range_no_run, range_of_run}
use Rattle.jr_extract.proofs.extracting.of_range.Goals as goal

pub returns-in-Some : goal.returns-in-Some
returns-in-Some c = λ ordered lt. range_of_run c.args.old.now c.args.range c.args.name.now c.args.unit c.in-Some.run' c.of_run.result ordered (c.in-Some.ensures ordered lt) c.of_run.ensures.ok c.of_run.ensures.fault

pub returns-in-None : goal.returns-in-None
returns-in-None c = λ ordered lt. range_no_run c.args.old.now c.args.range c.args.name.now c.args.unit (c.in-None.ensures ordered lt)
