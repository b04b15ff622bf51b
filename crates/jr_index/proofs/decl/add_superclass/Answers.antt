use Rattle.jr_index.proofs.Adding.{adds_two}
use Rattle.jr_index.proofs.decl.add_superclass.Goals as goal

pub returns-in-Some : goal.returns-in-Some
returns-in-Some c = rw c.in-Some.is (adds_two c.pass.ensures c.add_name.ensures)
