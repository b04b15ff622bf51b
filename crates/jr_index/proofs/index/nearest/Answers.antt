-- A row without nodes is not the unit's, so the row above it is still in the unit.
use Rattle.std.proofs.Common.{◌≡◌, ◌<◌, ◌≤◌, sym, ◌∙◌, ap, subst, arith, ℕ}
use Rattle.jr_tree.specs.Labels.{nodes_of}
use Rattle.jr_tree.specs.Rows.{label, end}
use Rattle.jr_index.specs.NodeRows.{IsNearest}
use Rattle.jr_index.proofs.Above.{next_up}
use Rattle.jr_index.proofs.index.nearest.Goals as goal

pub loop-at-preserved : goal.loop-at-preserved
loop-at-preserved c =
    let none : nodes_of (label c.args.rows.now c.loop-at.at) ≡ 0 = sym (c.node_count.ensures ∙ ap (λ r. nodes_of r.label) c.row_at.ensures) ∙ c.loop-at-test.true in
    let inside = c.loop-at.invariant.1 in
    let from = c.loop-at.invariant.2 in
    let up = next_up c.args.rows.now c.requires.tree c.args.unit c.loop-at.at c.requires.node c.requires.there c.loop-at.invariant.0 inside none in
    let below = up.1 in
    subst (λ k. (c.args.unit ≤ k) × (k < end c.args.rows.now c.args.unit) × (k ≤ c.args.from)
    × ((m : ℕ) → IsNearest c.args.rows.now k m → IsNearest c.args.rows.now c.args.from m))
    (sym (ap (λ r. r.parent) c.row_at-in-loop-at.ensures))
    (up.0, omega arith, omega arith, λ m h. c.loop-at.invariant.3 m (IsNearest.over none h))

pub returns-clause-is : goal.returns-clause-is
returns-clause-is c =
    let counted : c.node_count.result ≡ nodes_of (label c.args.rows.now c.loop-at.at) = c.node_count.ensures ∙ ap (λ r. nodes_of r.label) c.row_at.ensures in
    let test = c.loop-at-test.false in
    c.loop-at.invariant.3 c.loop-at.at (IsNearest.here (omega arith))
