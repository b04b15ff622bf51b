use Rattle.jr_names.proofs.Moved.{moved_so}
use Rattle.jr_names.proofs.moving.in_package.Goals as goal

pub returns-in-Some : goal.returns-in-Some
returns-in-Some c = λ ordered. moved_so c.args.marks.now c.args.declared c.args.named.now c.in-Some.row c.moved.result ordered c.in-Some.ensures.is c.in-Some.ensures.within c.moved.ensures.ok c.moved.ensures.fault
