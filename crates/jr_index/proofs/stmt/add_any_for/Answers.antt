use Rattle.jr_index.proofs.Adding.{}
use Rattle.jr_index.proofs.stmt.add_any_for.Goals as goal

pub returns-in-Some : goal.returns-in-Some
returns-in-Some c = rw c.in-Some.is c.add_for.ensures
