use Rattle.jr_index.proofs.Adding.{adds_two}
use Rattle.jr_index.proofs.expr.add_any_init.Goals as goal

pub returns-in-Some : goal.returns-in-Some
returns-in-Some c = rw c.in-Some.is (adds_two c.pass.ensures c.add_init.ensures)
