-- A unit of the table has its rows and nodes; what is found there is the node's, by `Placing`.
use Rattle.std.proofs.Common.{ap, arith}
use Rattle.jr_index.proofs.Placing.{at_unit, found, unknown_unit, behind_unit}
use Rattle.jr_index.proofs.index.find_row.Goals as goal

pub returns-then-known-units : goal.returns-then-known-units
returns-then-known-units c = unknown_unit c.args.rows.now c.args.nodes.now c.args.units.now c.requires c.args.node c.if-known-units.true

pub row_at-requires : goal.row_at-requires
row_at-requires c = (at_unit c.args.rows.now c.args.nodes.now c.args.units.now c.requires c.args.node.cu.0 c.if-known-units.false).there

pub bounds-nodes-unit : goal.bounds-nodes-unit
bounds-nodes-unit c =
    let w = at_unit c.args.rows.now c.args.nodes.now c.args.units.now c.requires c.args.node.cu.0 c.if-known-units.false in
    let there = w.there in let sized = w.sized in omega arith

pub bounds-nodes-end : goal.bounds-nodes-end
bounds-nodes-end c =
    let w = at_unit c.args.rows.now c.args.nodes.now c.args.units.now c.requires c.args.node.cu.0 c.if-known-units.false in
    let e = ap (λ r. r.end) c.row_at.ensures in
    let ends = w.ends in let sized = w.sized in omega arith

pub overflow_sub-nodes : goal.overflow_sub-nodes
overflow_sub-nodes c =
    let w = at_unit c.args.rows.now c.args.nodes.now c.args.units.now c.requires c.args.node.cu.0 c.if-known-units.false in
    let e = ap (λ r. r.end) c.row_at.ensures in
    rw e w.rises

pub returns-then-node-nodes : goal.returns-then-node-nodes
returns-then-node-nodes c =
    let e = ap (λ r. r.end) c.row_at.ensures in
    behind_unit c.args.rows.now c.args.nodes.now c.args.units.now c.requires c.args.node (rw e at c.if-node-nodes.true)

pub returns : goal.returns
returns c =
    let e = ap (λ r. r.end) c.row_at.ensures in
    found c.args.rows.now c.args.nodes.now c.args.units.now c.requires c.args.node c.place_of-row.result c.if-known-units.false c.place_of-row.ensures.from
    (rw e at c.place_of-row.ensures.to) c.place_of-row.ensures.low c.place_of-row.ensures.high
