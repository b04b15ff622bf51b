use Rattle.jr_package.proofs.Lifted.{lifted_so}
use Rattle.jr_package.proofs.lifting.lift.Goals as goal

pub returns-in-Some : goal.returns-in-Some
returns-in-Some c = λ ordered. lifted_so c.args.old.now c.args.file.now c.args.at c.in-Ok.found c.in-Some.row c.lifted.result ordered (c.in-Ok.ensures ordered) c.in-Some.ensures c.lifted.ensures.ok c.lifted.ensures.fault
