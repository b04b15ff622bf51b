use Rattle.jr_index.proofs.Adding.{}
use Rattle.jr_index.proofs.decl.add_any_block.Goals as goal

pub returns-in-None : goal.returns-in-None
returns-in-None c = rw c.in-None.is c.pass.ensures

pub returns-in-Some : goal.returns-in-Some
returns-in-Some c = rw c.in-Some.is c.add_block.ensures
