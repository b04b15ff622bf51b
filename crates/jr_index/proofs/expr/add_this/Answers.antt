use Rattle.jr_index.proofs.Adding.{adds_two, node}
use Rattle.jr_index.proofs.expr.add_this.Goals as goal

pub returns-in-None : goal.returns-in-None
returns-in-None c = rw c.in-None.is c.leaf.ensures

pub returns-in-Some : goal.returns-in-Some
returns-in-Some c = rw c.in-Some.is (node c.begin.ensures (adds_two c.add_type_name.ensures c.pass.ensures) c.close.ensures)
