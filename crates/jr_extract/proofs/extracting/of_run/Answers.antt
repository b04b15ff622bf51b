use Rattle.jr_extract.proofs.Extending.{run_method}
use Rattle.jr_extract.proofs.extracting.of_run.Goals as goal

pub returns-clause-ok : goal.returns-clause-ok
returns-clause-ok c = λ ordered within. run_method c.args.old.now c.args.run within c.args.name.now _ _ _ c.in_ok-graph.ensures.ok c.in_ok-locals.ensures (c.in_ok-with_locals.ensures.ok ordered within)
