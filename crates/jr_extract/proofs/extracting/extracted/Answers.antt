use Rattle.jr_extract.specs.Writing.{extracted}
use Rattle.jr_extract.proofs.Extending.{finished_so}
use Rattle.jr_extract.proofs.extracting.extracted.Goals as goal

pub returns-clause-ok : goal.returns-clause-ok
returns-clause-ok c = λ ordered within. finished_so c.args.marks.now (extracted c.args.added.now) _ c.in_ok-placed.placed c.finish.result (c.in_ok-placed.ensures.ok ordered within c.in_ok-draft.ensures) c.finish.ensures
