-- Tests of worked programs and changes: the edges are just those that are told, and they are the same before and after, or not.
use Rattle.std.proofs.Common.{◌≡◌, ℕ, Bool, true, ◌&&◌, List, Decides}
use Rattle.std.specs.List.{list_all}
use Rattle.jr_plain.specs.Search.{among}
use Rattle.jr_plain.specs.Same.{same_pair}
use Rattle.jr_plain.proofs.Tests.{itself, like, both}
use Rattle.jr_plain.proofs.Same.{pair_tells}
use Rattle.jr_plain.proofs.Searches.{every_item}
use Rattle.jr_flow_defs.specs.Edges.{FlowNode}
use Rattle.jr_flow_defs.specs.Kept.{Same}
use Rattle.jr_flow_defs.specs.Computed.{same_state, same_within, same_edge, control_edges, are_edges, def_uses, are_uses}
use Rattle.jr_flow_defs.specs.WorkedChanges.{Changed, flow, joined, names_before, names_after, Before, Inlined, Extracted}
use Rattle.jr_flow_defs.specs.Worked.{Worked, flow_of, naming_of, HasEdges}
use Rattle.jr_flow_defs.proofs.Same.{state_tells, within_tells, edge_tells}
use Rattle.jr_flow_defs.proofs.Flowing.{control_tells, def_uses_tells}

-- ---- lists with the same items

module _ {A : Type 0} (same : A → A → Bool) (tells : (a b : A) → Decides (same a b) (a ≡ b)) where
  abbrev are_same : List A → List A → Bool
  are_same xs ys = list_all (among same xs) ys && list_all (among same ys) xs

  as_items : (xs ys : List A) → are_same xs ys ≡ true → {P : Type 0} (x : A) → Decides (among same xs x) P → Decides (among same ys x) P
  as_items xs ys h x d = let parts = (both (every_item same tells (among same xs) ys) (every_item same tells (among same ys) xs)).0 h in
      (λ at. d.0 (parts.0 x at), λ p. parts.1 x (d.1 p))

-- two relations that lists tell are the same where the lists are
same_edges : {R Q : FlowNode → FlowNode → Type 0} (xs ys : List (FlowNode × FlowNode)) → ((x y : FlowNode) → Decides (among same_edge xs (x, y)) (R x y)) → ((x y : FlowNode) → Decides (among same_edge ys (x, y)) (Q x y))
    → Decides (are_same same_edge edge_tells xs ys) (Same R Q)
same_edges xs ys r q = like (both (every_item same_edge edge_tells (among same_edge xs) ys) (every_item same_edge edge_tells (among same_edge ys) xs))
    (λ h x y. (λ a. (q x y).0 (h.1 (x, y) ((r x y).1 a)), λ b. (r x y).0 (h.0 (x, y) ((q x y).1 b))))
    (λ h. (λ e at. (r e.0 e.1).1 ((h e.0 e.1).1 ((q e.0 e.1).0 at)), λ e at. (q e.0 e.1).1 ((h e.0 e.1).0 ((r e.0 e.1).0 at))))

-- ---- the test of a program

-- more rounds than any search needs
abbrev rounds : ℕ
rounds = 400

abbrev has_control : Worked → Bool
has_control w = are_same same_edge edge_tells (control_edges same_state (flow_of w) rounds w.rows w.body (naming_of w)) w.edges && are_edges same_state (flow_of w) rounds w.rows w.body (naming_of w)

abbrev has_uses : Worked → Bool
has_uses w = are_same same_pair pair_tells (def_uses same_state (flow_of w) rounds) w.uses && are_uses same_state (flow_of w) rounds

pub has_edges : (w : Worked) → has_control w ≡ true → has_uses w ≡ true → HasEdges w
has_edges w h k =
    let control = (both (itself (are_same same_edge edge_tells (control_edges same_state (flow_of w) rounds w.rows w.body (naming_of w)) w.edges)) (itself (are_edges same_state (flow_of w) rounds w.rows w.body (naming_of w)))).0 h in
    let uses = (both (itself (are_same same_pair pair_tells (def_uses same_state (flow_of w) rounds) w.uses)) (itself (are_uses same_state (flow_of w) rounds))).0 k in
    record {
      control = λ x y. as_items same_edge edge_tells (control_edges same_state (flow_of w) rounds w.rows w.body (naming_of w)) w.edges control.0 (x, y)
          (control_tells same_state state_tells (flow_of w) rounds w.rows w.body (naming_of w) control.1 x y);
      uses = λ i j. as_items same_pair pair_tells (def_uses same_state (flow_of w) rounds) w.uses uses.0 (i, j) (def_uses_tells same_state state_tells (flow_of w) rounds uses.1 i j);
    }

-- ---- the tests of changes

abbrev edges_before : Changed → List (FlowNode × FlowNode)
edges_before c = control_edges same_state (flow c.old) rounds c.old.rows c.old.body (names_before c)

abbrev edges_inlined : Changed → List (FlowNode × FlowNode)
edges_inlined c = control_edges same_state (flow c.new) rounds c.new.rows c.new.body (names_after c)

abbrev edges_extracted : Changed → ℕ → ℕ → List (FlowNode × FlowNode)
edges_extracted c call method = control_edges same_within (joined c call method) rounds c.new.rows c.new.body (names_after c)

abbrev are_before : Changed → Bool
are_before c = are_edges same_state (flow c.old) rounds c.old.rows c.old.body (names_before c)

abbrev are_inlined : Changed → Bool
are_inlined c = are_edges same_state (flow c.new) rounds c.new.rows c.new.body (names_after c)

abbrev are_extracted : Changed → ℕ → ℕ → Bool
are_extracted c call method = are_edges same_within (joined c call method) rounds c.new.rows c.new.body (names_after c)

pub inlined_tells : (c : Changed) → are_before c ≡ true → are_inlined c ≡ true → Decides (are_same same_edge edge_tells (edges_before c) (edges_inlined c)) (Same (Before c) (Inlined c))
inlined_tells c h k = same_edges (edges_before c) (edges_inlined c) (control_tells same_state state_tells (flow c.old) rounds c.old.rows c.old.body (names_before c) h)
    (control_tells same_state state_tells (flow c.new) rounds c.new.rows c.new.body (names_after c) k)

pub extracted_tells : (c : Changed) (call method : ℕ) → are_before c ≡ true → are_extracted c call method ≡ true
    → Decides (are_same same_edge edge_tells (edges_before c) (edges_extracted c call method)) (Same (Before c) (Extracted c call method))
extracted_tells c call method h k = same_edges (edges_before c) (edges_extracted c call method) (control_tells same_state state_tells (flow c.old) rounds c.old.rows c.old.body (names_before c) h)
    (control_tells same_within within_tells (joined c call method) rounds c.new.rows c.new.body (names_after c) k)
