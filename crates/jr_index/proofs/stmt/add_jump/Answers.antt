use Rattle.jr_index.proofs.Adding.{adds_two}
use Rattle.jr_index.proofs.stmt.add_jump.Goals as goal

pub returns-in-None : goal.returns-in-None
returns-in-None c = rw c.in-None.is c.leaf.ensures

pub returns-in-Some : goal.returns-in-Some
returns-in-Some c = rw c.in-Some.is (adds_two c.open.ensures (adds_two c.pass.ensures (adds_two c.own.ensures (adds_two c.pass-in-Some.ensures c.close.ensures))))
