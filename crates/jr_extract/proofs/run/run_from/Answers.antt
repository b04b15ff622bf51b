use Rattle.std.proofs.Common.{◌∙◌, ap, sym}
use Rattle.jr_extract.specs.Running.{run_from}
use Rattle.jr_extract.proofs.Taking.{run_taken}
use Rattle.jr_extract.proofs.run.run_from.Goals as goal

pub returns-in-Some : goal.returns-in-Some
returns-in-Some c = λ ordered. run_taken c.args.marks.now c.args.tokens c.in-Some.first c.end_of_statements.result c.run_to.result (c.end_of_statements.ensures ordered) c.run_to.ensures
    ∙ ap (run_from c.args.marks.now c.args.tokens) (sym c.in-Some.is)
