use Rattle.jr_index.proofs.Adding.{}
use Rattle.jr_index.proofs.words.add_result.Goals as goal

pub returns-in-Void : goal.returns-in-Void
returns-in-Void c = rw c.in-Void.is c.pass.ensures

pub returns-in-Of : goal.returns-in-Of
returns-in-Of c = rw c.in-Of.is c.add_type.ensures
