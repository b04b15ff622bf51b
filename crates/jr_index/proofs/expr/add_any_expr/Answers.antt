use Rattle.jr_index.proofs.Adding.{}
use Rattle.jr_index.proofs.expr.add_any_expr.Goals as goal

pub returns-in-Some : goal.returns-in-Some
returns-in-Some c = rw c.in-Some.is c.add_expr.ensures
