use Rattle.std.proofs.Common.{rules}
use Rattle.jr_index.proofs.Adding.{adds_two, node, are}
use Rattle.jr_index.proofs.stmt.add_for.Goals as goal

pub returns-in-Locals : goal.returns-in-Locals
returns-in-Locals c = are (node c.begin.ensures (adds_two (adds_two c.pass_if.ensures c.add_type.ensures) c.add_locals.ensures) c.close.ensures) (search rules)

pub returns-in-Exprs : goal.returns-in-Exprs
returns-in-Exprs c = are (node c.begin-in-Exprs.ensures c.add_exprs.ensures c.close-in-Exprs.ensures) (search rules)
