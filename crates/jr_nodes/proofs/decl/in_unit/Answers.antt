-- A search over a node's parts is one over them joined; a turn of a loop passes one item.
use Rattle.std.proofs.Common.{rules}
use Rattle.jr_nodes.proofs.Passing.{over_two}
use Rattle.jr_nodes.proofs.decl.in_unit.Goals as goal

pub returns : goal.returns
returns c = search (rules, over_two)
