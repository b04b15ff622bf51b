use Rattle.jr_extract.proofs.Extending.{answer_no_file, answer_of_file}
use Rattle.jr_extract.proofs.extracting.extract.Goals as goal

pub returns-in-Some : goal.returns-in-Some
returns-in-Some c = λ ordered. answer_of_file c.args.old.now c.args.file.now c.args.start c.args.end c.args.name.now c.in-Some.unit c.of_unit.result (c.in-Some.ensures ordered) (λ lt. c.of_unit.ensures ordered lt)

pub returns-in-None : goal.returns-in-None
returns-in-None c = λ ordered. answer_no_file c.args.old.now c.args.file.now c.args.start c.args.end c.args.name.now (c.in-None.ensures ordered)
