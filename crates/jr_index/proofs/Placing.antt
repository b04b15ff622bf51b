-- A node's row is found by the tables, and where they find none there is none.
use Rattle.std.proofs.Common.{◌≡◌, ℕ, suc, ◌+◌, ◌-◌, ◌<◌, ◌≤◌, List, length, refl, sym, ◌∙◌, ap, subst, arith}
use Rattle.std.proofs.Math.ListN.{get_or}
use Rattle.jr_base.specs.declared.ids.NodeAt.{NodeAt}
use Rattle.jr_tree.specs.declared.label.Label.TheVariants as is
use Rattle.jr_tree.specs.Labels.{nodes_of}
use Rattle.jr_tree.specs.Rows.{Rows, label, end, nodes_before}
use Rattle.jr_defs.specs.Numbers.{units_before}
use Rattle.jr_index.specs.NodeRows.{IsNodeOf, IsNowhere, IsIndex}
use Rattle.jr_defs.proofs.Units.{nodes_rise, unit_there}
use Rattle.jr_index.proofs.Numbering.{length_counts, counts_at, length_units, IsUnitRow, unit_at, unit_found}

pub next_count : (p : Rows) (n : ℕ) → nodes_before p (n + 1) ≡ nodes_before p n + nodes_of (label p n)
next_count p n = let e : suc n ≡ n + 1 = omega arith in subst (λ k. nodes_before p k ≡ nodes_before p n + nodes_of (label p n)) e refl

-- what the tables say of a unit
pub record AtUnit (p : Rows) (nodes units : List ℕ) (k u : ℕ) : Type 0 where
  pub unit : label p u ≡ is.Unit
  pub there : u < length p
  pub number : units_before p u ≡ k
  pub begins : u < end p u
  pub ends : end p u ≤ length p
  pub sized : length nodes ≡ length p + 1
  pub first : get_or nodes u 0 ≡ nodes_before p u
  pub last : get_or nodes (end p u) 0 ≡ nodes_before p (end p u)
  pub rises : get_or nodes u 0 ≤ get_or nodes (end p u) 0

module _ (p : Rows) (nodes units : List ℕ) (index : IsIndex p nodes units) where
  pub sized : length nodes ≡ length p + 1
  sized = ap length index.counted ∙ length_counts p (length p)

  pub node_count : (n : ℕ) → n ≤ length p → get_or nodes n 0 ≡ nodes_before p n
  node_count n h = ap (λ (all : List ℕ). get_or all n 0) index.counted ∙ counts_at p (length p) n h

  unit_count : length units ≡ units_before p (length p)
  unit_count = ap length index.starts ∙ length_units p (length p)

  pub at_unit : (k : ℕ) → k < length units → AtUnit p nodes units k (get_or units k 0)
  at_unit k h =
      let many = unit_count in
      let row : IsUnitRow p (length p) k (get_or units k 0)
      = subst (λ (all : List ℕ). IsUnitRow p (length p) k (get_or all k 0)) (sym index.starts) (unit_at p (length p) k (omega arith)) in
      let u = get_or units k 0 in
      let there = row.below in
      let nested = index.local.tree.nested u in
      let ends = index.local.tree.last u there in
      let first = node_count u (omega arith) in
      let last = node_count (end p u) ends in
      let rises = nodes_rise p u (end p u) (omega arith) in
      record { unit = row.unit; there = there; number = row.number; begins = nested; ends = ends; sized = sized; first = first; last = last; rises = omega arith }

  -- the row that is found stands for the node
  pub found : (at : NodeAt) (n : ℕ) → at.cu.0 < length units → get_or units at.cu.0 0 ≤ n → n < end p (get_or units at.cu.0 0)
      → get_or nodes n 0 ≤ get_or nodes (get_or units at.cu.0 0) 0 + at.node.0
      → get_or nodes (get_or units at.cu.0 0) 0 + at.node.0 < get_or nodes (n + 1) 0
      → IsNodeOf p n (get_or nodes (get_or units at.cu.0 0) 0 + at.node.0 - get_or nodes n 0) at
  found at n known from before low high =
      let u = get_or units at.cu.0 0 in
      let w = at_unit at.cu.0 known in
      let ends = w.ends in
      let here = node_count n (omega arith) in
      let behind = node_count (n + 1) (omega arith) in
      let next = next_count p n in
      let first = w.first in
      record { unit = u; holds = record { unit = w.unit; from = from; before = before }; in_unit = sym w.number; counted = omega arith; is_node = omega arith }

  -- a node that some row stands for is in a unit of the table, and is counted there
  pub record Counted (at : NodeAt) : Type 0 where
    pub known : at.cu.0 < length units
    pub below : at.node.0 < get_or nodes (end p (get_or units at.cu.0 0)) 0 - get_or nodes (get_or units at.cu.0 0) 0

  -- it is the unit of the node
  pub named : (at : NodeAt) (n nth : ℕ) (w : IsNodeOf p n nth at) → (at.cu.0 < length units) × (get_or units at.cu.0 0 ≡ w.unit)
  named at n nth w =
      let in_unit = w.in_unit in
      let held = w.holds in
      let stands = unit_found p (length p) w.unit (unit_there p index.local w.unit held.unit) held.unit in
      let many = unit_count in
      let fewer = stands.0 in
      (omega arith, ap (λ (k : ℕ). get_or units k 0) in_unit ∙ ap (λ (all : List ℕ). get_or all (units_before p w.unit) 0) index.starts ∙ stands.1)

  pub counted : (at : NodeAt) (n nth : ℕ) → IsNodeOf p n nth at → Counted at
  counted at n nth w =
      let u = w.unit in
      let held = w.holds in
      let before = held.before in
      let there = unit_there p index.local u held.unit in
      let ends = index.local.tree.last u there in
      let nested = index.local.tree.nested u in
      let first = node_count u (omega arith) in
      let last = node_count (end p u) ends in
      let rise = nodes_rise p (n + 1) (end p u) (omega arith) in
      let next = next_count p n in
      let of_row = w.counted in
      let number = w.is_node in
      let below : at.node.0 < get_or nodes (end p u) 0 - get_or nodes u 0 = omega arith in
      let unit = named at n nth w in
      record { known = unit.0; below = subst (λ v. at.node.0 < get_or nodes (end p v) 0 - get_or nodes v 0) (sym unit.1) below }

  pub unknown_unit : (at : NodeAt) → length units ≤ at.cu.0 → IsNowhere p at
  unknown_unit at h n nth w = let k = (counted at n nth w).known in absurd (omega arith)

  pub behind_unit : (at : NodeAt) → get_or nodes (end p (get_or units at.cu.0 0)) 0 - get_or nodes (get_or units at.cu.0 0) 0 ≤ at.node.0 → IsNowhere p at
  behind_unit at h n nth w = let k = (counted at n nth w).below in absurd (omega arith)
