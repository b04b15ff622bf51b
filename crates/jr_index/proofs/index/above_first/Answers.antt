-- The row is in the unit of the node, and the row that is found above it is there too, by `Above`.
use Rattle.std.proofs.Common.{◌≡◌, ◌+◌, ◌-◌, ◌≤◌, sym, ◌∙◌, ap, subst, arith}
use Rattle.std.proofs.Math.Facts.{Fits-le}
use Rattle.std.proofs.Math.ListN.{get_or}
use Rattle.std.specs.Prelude.{nat_eq}
use Rattle.jr_tree.specs.Rows.{label}
use Rattle.jr_index.specs.NodeRows.{IsParentNode, over_nth}
use Rattle.jr_index.proofs.Placing.{named, sized}
use Rattle.jr_index.proofs.Above.{climbs, above}
use Rattle.jr_index.proofs.index.above_first.Goals as goal

pub bounds-units-node : goal.bounds-units-node
bounds-units-node c = (named c.args.rows.now c.args.nodes.now c.args.units.now c.requires.index c.args.node c.args.row 0 c.requires.first).0

pub row_at-requires : goal.row_at-requires
row_at-requires c = (climbs c.args.rows.now c.args.nodes.now c.args.units.now c.requires.index c.args.node c.args.row c.requires.first c.requires.inside).there

pub nearest-over-requires-clause-node : goal.nearest-over-requires-clause-node
nearest-over-requires-clause-node c =
    (climbs c.args.rows.now c.args.nodes.now c.args.units.now c.requires.index c.args.node c.args.row c.requires.first c.requires.inside).node

pub nearest-over-requires-clause-inside : goal.nearest-over-requires-clause-inside
nearest-over-requires-clause-inside c =
    let start = climbs c.args.rows.now c.args.nodes.now c.args.units.now c.requires.index c.args.node c.args.row c.requires.first c.requires.inside in
    let e = ap (λ r. r.parent) c.row_at.ensures in
    rw e start.inside

pub nearest-over-requires-clause-before : goal.nearest-over-requires-clause-before
nearest-over-requires-clause-before c =
    let start = climbs c.args.rows.now c.args.nodes.now c.args.units.now c.requires.index c.args.node c.args.row c.requires.first c.requires.inside in
    let e = ap (λ r. r.parent) c.row_at.ensures in
    rw e start.before

pub nearest-over-requires-clause-there : goal.nearest-over-requires-clause-there
nearest-over-requires-clause-there c =
    (climbs c.args.rows.now c.args.nodes.now c.args.units.now c.requires.index c.args.node c.args.row c.requires.first c.requires.inside).unit_there

pub row_at-requires-2 : goal.row_at-requires-2
row_at-requires-2 c =
    let start = climbs c.args.rows.now c.args.nodes.now c.args.units.now c.requires.index c.args.node c.args.row c.requires.first c.requires.inside in
    let e = ap (λ r. r.parent) c.row_at.ensures in
    let below = start.below in let there = start.there in let to = c.nearest-over.ensures.before in omega arith

pub overflow_add-over : goal.overflow_add-over
overflow_add-over c =
    let start = climbs c.args.rows.now c.args.nodes.now c.args.units.now c.requires.index c.args.node c.args.row c.requires.first c.requires.inside in
    let e = ap (λ r. r.parent) c.row_at.ensures in
    let below = start.below in let to = c.nearest-over.ensures.before in
    let within : c.nearest-over.result + 1 ≤ c.args.row = omega arith in
    let fits = c.ranges.row.fits in omega arith

pub bounds-nodes-over : goal.bounds-nodes-over
bounds-nodes-over c =
    let start = climbs c.args.rows.now c.args.nodes.now c.args.units.now c.requires.index c.args.node c.args.row c.requires.first c.requires.inside in
    let e = ap (λ r. r.parent) c.row_at.ensures in
    let size = sized c.args.rows.now c.args.nodes.now c.args.units.now c.requires.index in
    let below = start.below in let there = start.there in let to = c.nearest-over.ensures.before in omega arith

pub bounds-nodes-unit : goal.bounds-nodes-unit
bounds-nodes-unit c =
    let start = climbs c.args.rows.now c.args.nodes.now c.args.units.now c.requires.index c.args.node c.args.row c.requires.first c.requires.inside in
    let size = sized c.args.rows.now c.args.nodes.now c.args.units.now c.requires.index in
    let there = start.unit_there in omega arith

pub overflow_sub-result : goal.overflow_sub-result
overflow_sub-result c =
    let e = ap (λ r. r.parent) c.row_at.ensures in
    (above c.args.rows.now c.args.nodes.now c.args.units.now c.requires.index c.args.node c.args.row c.nearest-over.result c.requires.first c.requires.inside
    (rw e at c.nearest-over.ensures.is) c.nearest-over.ensures.inside (rw e at c.nearest-over.ensures.before)).from

pub overflow_add-result : goal.overflow_add-result
overflow_add-result c =
    let e = ap (λ r. r.parent) c.row_at.ensures in
    let w = above c.args.rows.now c.args.nodes.now c.args.units.now c.requires.index c.args.node c.args.row c.nearest-over.result c.requires.first c.requires.inside
    (rw e at c.nearest-over.ensures.is) c.nearest-over.ensures.inside (rw e at c.nearest-over.ensures.before) in
    let nth : c.nth_over-nth.result ≡ over_nth (label c.args.rows.now c.nearest-over.result) (nat_eq c.args.row (c.nearest-over.result + 1))
    = c.nth_over-nth.ensures ∙ ap (λ r. over_nth r.label (nat_eq c.args.row (c.nearest-over.result + 1))) c.row_at-2.ensures in
    let small = w.small in
    let within : get_or c.args.nodes.now c.nearest-over.result 0 - get_or c.args.nodes.now (get_or c.args.units.now c.args.node.cu.0 0) 0 + c.nth_over-nth.result
    ≤ get_or c.args.nodes.now c.args.row 0 = omega arith in
    Fits-le within (c.type_inv.nodes c.args.row)

pub returns : goal.returns
returns c =
    let e = ap (λ r. r.parent) c.row_at.ensures in
    let w = above c.args.rows.now c.args.nodes.now c.args.units.now c.requires.index c.args.node c.args.row c.nearest-over.result c.requires.first c.requires.inside
    (rw e at c.nearest-over.ensures.is) c.nearest-over.ensures.inside (rw e at c.nearest-over.ensures.before) in
    let nth : c.nth_over-nth.result ≡ over_nth (label c.args.rows.now c.nearest-over.result) (nat_eq c.args.row (c.nearest-over.result + 1))
    = c.nth_over-nth.ensures ∙ ap (λ r. over_nth r.label (nat_eq c.args.row (c.nearest-over.result + 1))) c.row_at-2.ensures in
    subst (λ k. IsParentNode c.args.rows.now c.args.node (record {
      cu = c.args.node.cu;
      node = record { 0 = get_or c.args.nodes.now c.nearest-over.result 0 - get_or c.args.nodes.now (get_or c.args.units.now c.args.node.cu.0 0) 0 + k };
    })) (sym nth) w.is
