use Rattle.std.proofs.Common.{rules}
use Rattle.jr_nodes.proofs.Passing.{over_two}
use Rattle.jr_nodes.proofs.stmt.in_variables.Goals as goal

pub returns : goal.returns
returns c = search (rules, over_two)
