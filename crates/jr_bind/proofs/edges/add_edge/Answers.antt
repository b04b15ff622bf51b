use Rattle.jr_bind.proofs.RowByRow.{edge_none, edge_more}
use Rattle.jr_bind.proofs.edges.add_edge.Goals as goal

pub returns-in_default : goal.returns-in_default
returns-in_default c = edge_none c.args.low c.args.over c.args.edges.now c.in_default.is

pub returns : goal.returns
returns c = edge_more c.args.low c.in-Some.row c.args.over c.args.edges.now _ c.in-Some.is c.in_ok-add.ensures (c.may_follow.ensures c.in_ok-claim.ensures)
