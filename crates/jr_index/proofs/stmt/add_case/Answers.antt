use Rattle.jr_index.proofs.Adding.{adds_two, node}
use Rattle.jr_index.proofs.stmt.add_case.Goals as goal

pub returns-in-Case : goal.returns-in-Case
returns-in-Case c = rw c.in-Case.is (node c.begin.ensures (adds_two (adds_two c.pass.ensures c.add_expr.ensures) c.pass-in-Case.ensures) c.close.ensures)

pub returns-in-Default : goal.returns-in-Default
returns-in-Default c = rw c.in-Default.is c.leaf.ensures
