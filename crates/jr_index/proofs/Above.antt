-- The node above a node is found by the tables.
use Rattle.std.proofs.Common.{◌≡◌, ℕ, ◌+◌, ◌-◌, ◌<◌, ◌≤◌, ◌⊎◌, inl, inr, List, length, sym, ◌∙◌, ap, subst, arith}
use Rattle.std.specs.Prelude.{Bool, true, false, nat_eq}
use Rattle.std.proofs.Math.ListN.{get_or}
use Rattle.jr_base.specs.declared.ids.NodeAt.{NodeAt}
use Rattle.jr_tree.specs.declared.label.Label.{Label}
use Rattle.jr_tree.specs.declared.label.Label.TheVariants as is
use Rattle.jr_tree.specs.declared.label.NamePlace.{NamePlace}
use Rattle.jr_tree.specs.declared.label.NamePlace.TheVariants as place
use Rattle.jr_tree.specs.declared.label.ReceiverKind.{ReceiverKind}
use Rattle.jr_tree.specs.declared.label.ReceiverKind.TheVariants as on
use Rattle.jr_tree.specs.Labels.{nodes_of, name_nodes, call_nodes}
use Rattle.jr_tree.specs.Rows.{Rows, label, parent, end, nodes_before}
use Rattle.jr_tree.specs.Tree.{IsTree}
use Rattle.jr_defs.specs.Numbers.{units_before}
use Rattle.jr_defs.specs.Packages.{InUnit}
use Rattle.jr_index.specs.NodeRows.{IsNodeOf, IsNearest, IsParentNode, IsIndex, over_nth, receiver_over}
use Rattle.jr_defs.proofs.Units.{nodes_rise, unit_there}
use Rattle.jr_index.proofs.Placing.{next_count, named, node_count}

-- ---- labels stand for two nodes at most, and the one above others is one of them

name_two : (at : NamePlace) → name_nodes at ≤ 2
name_two place.Qualifier = omega arith
name_two place.Expression = omega arith
name_two place.Receiver = omega arith
name_two _ = omega arith

call_two : (r : ReceiverKind) → call_nodes r ≤ 2
call_two on.Expression = omega arith
call_two on.Super = omega arith
call_two _ = omega arith

pub at_most_two : (l : Label) → nodes_of l ≤ 2
at_most_two is.Program = omega arith
at_most_two (is.Name k at b) = name_two at
at_most_two (is.Class m true) = omega arith
at_most_two (is.Class m false) = omega arith
at_most_two (is.Interface m true) = omega arith
at_most_two (is.Interface m false) = omega arith
at_most_two (is.EmptyDecl true) = omega arith
at_most_two (is.EmptyDecl false) = omega arith
at_most_two (is.Call r) = call_two r
at_most_two _ = omega arith

receiver_below : (r : ReceiverKind) (b : Bool) → 0 < call_nodes r → receiver_over r b < call_nodes r
receiver_below on.Expression true h = omega arith
receiver_below on.Expression false h = omega arith
receiver_below _ b h = h

pub over_below : (l : Label) (b : Bool) → 0 < nodes_of l → over_nth l b < nodes_of l
over_below (is.Class m true) b h = omega arith
over_below (is.Class m false) b h = omega arith
over_below (is.Interface m true) b h = omega arith
over_below (is.Interface m false) b h = omega arith
over_below (is.Call r) b h = receiver_below r b h
over_below _ b h = h

nearest_counts : (p : Rows) (n m : ℕ) → IsNearest p n m → 0 < nodes_of (label p m)
nearest_counts p n _ (IsNearest.here h) = h
nearest_counts p n m (IsNearest.over z h) = nearest_counts p (parent p n) m h

-- above a row of a unit that stands for no nodes stands a row of that unit
pub next_up : (p : Rows) → IsTree p → (u n : ℕ) → 0 < nodes_of (label p u) → u < length p → u ≤ n → n < end p u → nodes_of (label p n) ≡ 0
    → (u ≤ parent p n) × (parent p n < n)
next_up p tree u n counted there from before none =
    let ends = tree.last u there in
    let side : (u < n) ⊎ (u ≡ n) = apart in
    let below : u < n = elim side [ inl l ↦ l | inr e ↦ (let z : nodes_of (label p u) ≡ 0 = ap (λ k. nodes_of (label p k)) e ∙ none in absurd (omega arith)) ] in
    (tree.inner u n below before, tree.up n (omega arith) (omega arith))
  where
    apart : (u < n) ⊎ (u ≡ n)
    apart = let w : (u < n) ⊎ (n ≤ u) = grind arith in elim w [ inl l ↦ inl l | inr g ↦ inr (omega arith) ]

-- ---- above the second node of a row stands its first

pub above_second : (p : Rows) (n nth : ℕ) (at : NodeAt) → IsNodeOf p n nth at → 0 < nth → 0 < at.node.0
    → IsParentNode p at (record { cu = at.cu; node = record { 0 = at.node.0 - 1 } })
above_second p n nth at w second more =
    let two = at_most_two (label p n) in
    let of_row = w.counted in
    let number = w.is_node in
    let same : nth ≡ 1 = omega arith in
    let is_first : at.node.0 - 1 + nodes_before p w.unit ≡ nodes_before p n + 0 = omega arith in
    IsParentNode.same_row {n = n} (subst (λ k. IsNodeOf p n k at) same w)
    (record { unit = w.unit; holds = w.holds; in_unit = w.in_unit; counted = omega arith; is_node = is_first })

-- ---- above the first node of a row stands one of a row above

unit_counts : (p : Rows) (u : ℕ) → label p u ≡ is.Unit → 0 < nodes_of (label p u)
unit_counts p u e = subst (λ l. 0 < nodes_of l) (sym e) (omega arith)

-- from where, and up to where, it is looked for
pub record Climbs (p : Rows) (u n : ℕ) : Type 0 where
  pub there : n < length p
  pub unit_there : u < length p
  pub inside : u ≤ parent p n
  pub before : parent p n < end p u
  pub below : parent p n < n
  pub node : 0 < nodes_of (label p u)

pub record HasAbove (p : Rows) (nodes units : List ℕ) (at : NodeAt) (n m : ℕ) : Type 0 where
  pub from : get_or nodes (get_or units at.cu.0 0) 0 ≤ get_or nodes m 0
  pub small : get_or nodes m 0 - get_or nodes (get_or units at.cu.0 0) 0 + over_nth (label p m) (nat_eq n (m + 1)) ≤ get_or nodes n 0
  pub is : IsParentNode p at (record { cu = at.cu; node = record { 0 = get_or nodes m 0 - get_or nodes (get_or units at.cu.0 0) 0 + over_nth (label p m) (nat_eq n (m + 1)) } })

module _ (p : Rows) (nodes units : List ℕ) (index : IsIndex p nodes units) where
  climbs_from : (at : NodeAt) (n : ℕ) (w : IsNodeOf p n 0 at) → 0 < at.node.0 → Climbs p w.unit n
  climbs_from at n w more =
      let u = w.unit in
      let held = w.holds in
      let there = unit_there p index.local u held.unit in
      let ends = index.local.tree.last u there in
      let from = held.from in
      let before = held.before in
      let number = w.is_node in
      let side : (u < n) ⊎ (n ≤ u) = split u n in
      let apart : u < n = elim side [ inl l ↦ l | inr g ↦ (let rise = nodes_rise p n u g in absurd (omega arith)) ] in
      let inner = index.local.tree.inner u n apart before in
      let up = index.local.tree.up n (omega arith) (omega arith) in
      record { there = omega arith; unit_there = there; inside = inner; before = omega arith; below = up; node = unit_counts p u held.unit }
    where
      split : (a b : ℕ) → (a < b) ⊎ (b ≤ a)
      split a b = grind arith

  pub climbs : (at : NodeAt) (n : ℕ) → IsNodeOf p n 0 at → 0 < at.node.0 → Climbs p (get_or units at.cu.0 0) n
  climbs at n w more = subst (λ u. Climbs p u n) (sym (named p nodes units index at n 0 w).1) (climbs_from at n w more)

  pub above : (at : NodeAt) (n m : ℕ) → IsNodeOf p n 0 at → 0 < at.node.0 → IsNearest p (parent p n) m → get_or units at.cu.0 0 ≤ m → m ≤ parent p n
      → HasAbove p nodes units at n m
  above at n m w more nearest from to =
      let u = get_or units at.cu.0 0 in
      let same = (named p nodes units index at n 0 w).1 in
      let held = subst (λ u. InUnit p u n) (sym same) w.holds in
      let start = climbs at n w more in
      let there = start.there in
      let below = start.below in
      let first = node_count p nodes units index u (omega arith) in
      let here = node_count p nodes units index m (omega arith) in
      let of_row = node_count p nodes units index n (omega arith) in
      let rise = nodes_rise p u m from in
      let next = next_count p m in
      let further = nodes_rise p (m + 1) n (omega arith) in
      let some = over_below (label p m) (nat_eq n (m + 1)) (nearest_counts p (parent p n) m nearest) in
      let number : at.node.0 + nodes_before p u ≡ nodes_before p n + 0 = subst (λ u. at.node.0 + nodes_before p u ≡ nodes_before p n + 0) (sym same) w.is_node in
      let before = held.before in
      record {
        from = omega arith;
        small = omega arith;
        is = IsParentNode.row_over {n = n} {m = m} w nearest (record {
          unit = u;
          holds = record { unit = held.unit; from = from; before = omega arith };
          in_unit = w.in_unit ∙ ap (units_before p) (sym same);
          counted = some;
          is_node = omega arith;
        });
      }
