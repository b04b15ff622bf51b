-- What control comes to, paths, edges of control and from definitions to uses, as the searches find them.
use Rattle.std.proofs.Common.{◌≡◌, ◌⊎◌, refl, sym, ap, subst, inl, ⊎_elim, arith, ℕ, ◌<◌, Bool, true, false, if◌then◌else◌, ◌&&◌, List, [], ◌∷◌, map, Option, Some, None, is_some, nat_eq, Decides}
use Rattle.std.specs.List.{Contains}
use Rattle.std.proofs.lemmas.Bool.{false≢true}
use Rattle.std.proofs.lemmas.Bool.Decides.{Decides-at, Decides-eqb, Decides-ltb}
use Rattle.std.proofs.lemmas.Option.{none-some, same_Some}
use Rattle.jr_tree.specs.Rows.{Rows, end}
use Rattle.jr_plain.specs.Search.{among}
use Rattle.jr_plain.specs.Same.{same_pair}
use Rattle.jr_plain.proofs.Tests.{itself, like, both, either, never}
use Rattle.jr_plain.proofs.Same.{pair_tells}
use Rattle.jr_plain.proofs.Searches.{some_item, every_item, any_flat}
use Rattle.jr_flow_defs.specs.declared.point.Point.{Point}
use Rattle.jr_flow_defs.specs.declared.point.PointKind.{PointKind}
use Rattle.jr_flow_defs.specs.declared.point.PointKind.TheVariants as kind
use Rattle.jr_flow_defs.specs.States.{Hop}
use Rattle.jr_flow_defs.specs.Paths.{Flow, Goes, IsReached, Path}
use Rattle.jr_flow_defs.specs.Edges.{point, FlowNode, Naming, node_at, IsNode, IsInside, IsOneName, ControlEdge, Defines, DefUse}
use Rattle.jr_flow_defs.specs.Computed.{same_node, same_edge, Chain, begin, on, targets, reached, unless, ends, are_ends, are_reached, is_inside, is_node, edge, edges_from, control_edges, are_edges, is_definition, defined_at, used_at, uses_at, defines, uses_from, uses_behind, def_uses, are_done, are_done_at, are_uses}
use Rattle.jr_flow_defs.proofs.Same.{node_tells, edge_tells}
use Rattle.jr_flow_defs.proofs.Searched.{contains_out, contains_first, contains_more, search_tells}

-- ---- hops

hops_out : {A : Type 0} (all : List (Hop A)) (b : A) → Contains (map (λ h. h.to) all) b → (t : Bool) × Contains all (record { to = b; is_throw = t })
hops_out [] b h = absurd (omega (arith, h.1))
hops_out (one ∷ all) b h = ⊎_elim (λ e. (one.is_throw, subst (λ c. Contains (one ∷ all) (record { to = c; is_throw = one.is_throw })) e (contains_first one all)))
    (λ more. let found = hops_out all b more in (found.0, contains_more one all (record { to = b; is_throw = found.0 }) found.1)) (contains_out one.to (map (λ k. k.to) all) b h)

hops_into : {A : Type 0} (all : List (Hop A)) (hop : Hop A) → Contains all hop → Contains (map (λ h. h.to) all) hop.to
hops_into [] hop h = absurd (omega (arith, h.1))
hops_into (one ∷ all) hop h = ⊎_elim (λ e. subst (λ c. Contains (map (λ k. k.to) (one ∷ all)) c) (ap (λ k. k.to) e) (contains_first one.to (map (λ k. k.to) all)))
    (λ more. contains_more one.to (map (λ k. k.to) all) hop.to (hops_into all hop more)) (contains_out one all hop h)

module _ {A : Type 0} (same : A → A → Bool) (tells : (a b : A) → Decides (same a b) (a ≡ b)) (f : Flow A) (rounds : ℕ) where
  goes_out : (a b : A) → Contains (targets same f rounds a) b → Goes f a b
  goes_out a b h = let found = hops_out (f.hops a) b h in record { is_throw = found.0; hop = found.1 }

  goes_into : (a b : A) → Goes f a b → Contains (targets same f rounds a) b
  goes_into a b g = hops_into (f.hops a) (record { to = b; is_throw = g.is_throw }) g.hop

  -- ---- what control comes to

  chain_of : (a : A) → IsReached f a → Chain (targets same f rounds) (f.start ∷ []) a
  chain_of a IsReached.start = begin (contains_first f.start [])
  chain_of b (IsReached.on {a} r g) = on (chain_of a r) (goes_into a b g)

  reached_by : (a : A) → Chain (targets same f rounds) (f.start ∷ []) a → IsReached f a
  reached_by a (begin c) = ⊎_elim (λ e. subst (IsReached f) e IsReached.start) (λ none. absurd (omega (arith, none.1))) (contains_out f.start [] a c)
  reached_by b (on {a = a} chain c) = IsReached.on (reached_by a chain) (goes_out a b c)

  pub reached_tells : are_reached same f rounds ≡ true → (a : A) → Decides (among same (reached same f rounds) a) (IsReached f a)
  reached_tells closed a = like (search_tells same tells (targets same f rounds) rounds (f.start ∷ []) closed a) (reached_by a) (chain_of a)

  -- ---- paths

  module _ (stops : A → Bool) (Stops : A → Type 0) (stop : (a : A) → Decides (stops a) (Stops a)) where
    unless_into : (b : Bool) {S : Type 0} (c : A) (all : List A) → Decides b S → (S → ⊥) → Contains all c → Contains (if b then [] else all) c
    unless_into true c all d apart h = absurd (apart (d.0 refl))
    unless_into false c all d apart h = h

    unless_out : (b : Bool) {S : Type 0} (c : A) (all : List A) → Decides b S → Contains (if b then [] else all) c → (S → ⊥) × Contains all c
    unless_out true c all d h = absurd (omega (arith, h.1))
    unless_out false c all d h = (λ s. false≢true (d.1 s), h)

    along : (a b : A) → Path f Stops a b → Chain (unless same f rounds stops) (targets same f rounds a) b
    along a b (Path.hop g) = begin (goes_into a b g)
    along a b (Path.on {r} path apart g) = on (along a r path) (unless_into (stops r) b (targets same f rounds r) (stop r) apart (goes_into r b g))

    path_by : (a b : A) → Chain (unless same f rounds stops) (targets same f rounds a) b → Path f Stops a b
    path_by a b (begin c) = Path.hop (goes_out a b c)
    path_by a b (on {a = r} chain c) = let found = unless_out (stops r) b (targets same f rounds r) (stop r) c in Path.on (path_by a r chain) found.0 (goes_out r b found.1)

    pub path_tells : (a : A) → are_ends same f rounds stops a ≡ true → (b : A) → Decides (among same (ends same f rounds stops a) b) (Path f Stops a b)
    path_tells a closed b = like (search_tells same tells (unless same f rounds stops) rounds (targets same f rounds a) closed b) (path_by a b) (along a b)

-- ---- edges of control

inside_tells : (p : Rows) (x y : Option Point) → Decides (is_inside p x y) ((inner : Point) × (outer : Point) × (x ≡ Some inner) × (y ≡ Some outer) × IsInside p inner outer)
inside_tells p None y = like never (λ h. absurd h) (λ h. absurd (none-some h.0 h.2))
inside_tells p (Some a) None = like never (λ h. absurd h) (λ h. absurd (none-some h.1 h.3))
inside_tells p (Some a) (Some b) = like (both (Decides-ltb b.row a.row) (Decides-ltb a.row (end p b.row))) (λ h. (a, b, refl, refl, record { behind = h.0; within = h.1 }))
    (λ h. let first = same_Some _ _ h.2 in let second = same_Some _ _ h.3 in let inside = h.4 in
    subst (λ z. (b.row < z.row) × (z.row < end p b.row)) (sym first) (subst (λ z. (z.row < h.0.row) × (h.0.row < end p z.row)) (sym second) (inside.behind, inside.within)))

pub some_node : (o : Option FlowNode) → Decides (is_some o) ((x : FlowNode) × (o ≡ Some x))
some_node None = like never (λ h. absurd h) (λ h. absurd (none-some h.0 h.1))
some_node (Some x) = (λ h. (x, refl), λ h. refl)

kept : {S : Type 0} (c : Bool) → Decides c S → (one e : FlowNode × FlowNode) → Decides (among same_edge (if c then [] else one ∷ []) e) ((one ≡ e) × (S → ⊥))
kept true d one e = like never (λ h. absurd h) (λ h. absurd (h.1 (d.0 refl)))
kept false d one e = like (either (edge_tells one e) never) (⊎_elim (λ q. (q, λ s. false≢true (d.1 s))) (λ h. absurd h)) (λ h. inl h.0)

module _ {A : Type 0} (same : A → A → Bool) (tells : (a b : A) → Decides (same a b) (a ≡ b)) (f : Flow A) (rounds : ℕ) (p : Rows) (body : ℕ) (naming : Naming) where
  one_name_tells : (x y : FlowNode) (a b : A) → Decides (same_node x y && is_inside p (f.point a) (f.point b)) (IsOneName p f x y a b)
  one_name_tells x y a b = like (both (node_tells x y) (inside_tells p (f.point a) (f.point b)))
      (λ h. record { same = h.0; inner = h.1.0; outer = h.1.1; first = h.1.2; second = h.1.3; inside = h.1.4 })
      (λ h. (h.same, (h.inner, h.outer, h.first, h.second, h.inside)))

  node_stops : (a : A) → Decides (is_node same f rounds p body naming a) (IsNode f body naming a)
  node_stops a = like (some_node (node_at f body naming a)) (λ h. record { node = h.0; stands = h.1 }) (λ h. (h.node, h.stands))

  edge_found : (a b : A) (one x y : FlowNode) (o : Option FlowNode)
      → Decides (among same_edge (edge same f rounds p body naming a one b o) (x, y)) ((one ≡ x) × ((o ≡ Some y) × (IsOneName p f x y a b → ⊥)))
  edge_found a b one x y None = like never (λ h. absurd h) (λ h. absurd (none-some y h.1.0))
  edge_found a b one x y (Some z) = like (kept (same_node one z && is_inside p (f.point a) (f.point b)) (one_name_tells one z a b) (one, z) (x, y))
      (λ h. (ap (λ e. e.0) h.0, (ap (λ e. Some e.1) h.0, subst (λ e. IsOneName p f e.0 e.1 a b → ⊥) h.0 h.1)))
      (λ h. let e : (one, z) ≡ (x, y) = λ i. (h.0 i, same_Some _ _ h.1.0 i) in (e, subst (λ e. IsOneName p f e.0 e.1 a b → ⊥) (sym e) h.1.1))

  abbrev Leads : A → FlowNode → FlowNode → Type 0
  Leads a x y = (b : A) × Path f (IsNode f body naming) a b × (node_at f body naming b ≡ Some y) × (IsOneName p f x y a b → ⊥)

  from_tells : (a : A) → are_ends same f rounds (is_node same f rounds p body naming) a ≡ true → (x y : FlowNode) (o : Option FlowNode)
      → Decides (among same_edge (edges_from same f rounds p body naming a o) (x, y)) ((o ≡ Some x) × Leads a x y)
  from_tells a closed x y None = like never (λ h. absurd h) (λ h. absurd (none-some x h.0))
  from_tells a closed x y (Some one) = Decides-at _ _ (any_flat same_edge (λ b. edge same f rounds p body naming a one b (node_at f body naming b)) (ends same f rounds (is_node same f rounds p body naming) a) (x, y))
      (like (some_item same tells (λ b. among same_edge (edge same f rounds p body naming a one b (node_at f body naming b)) (x, y)) (ends same f rounds (is_node same f rounds p body naming) a))
      (λ h. let found = (edge_found a h.0 one x y (node_at f body naming h.0)).0 h.2 in
      (ap Some found.0, (h.0, (path_tells same tells f rounds (is_node same f rounds p body naming) (IsNode f body naming) node_stops a closed h.0).0 h.1, found.1.0, found.1.1)))
      (λ h. (
        h.1.0,
        (path_tells same tells f rounds (is_node same f rounds p body naming) (IsNode f body naming) node_stops a closed h.1.0).1 h.1.1,
        (edge_found a h.1.0 one x y (node_at f body naming h.1.0)).1 (same_Some _ _ h.0, (h.1.2, h.1.3)),
      )))

  pub control_tells : are_edges same f rounds p body naming ≡ true → (x y : FlowNode)
      → Decides (among same_edge (control_edges same f rounds p body naming) (x, y)) (ControlEdge p f body naming x y)
  control_tells done x y =
      let parts = (both (itself (are_reached same f rounds)) (every_item same tells (are_ends same f rounds (is_node same f rounds p body naming)) (reached same f rounds))).0 done in
      Decides-at _ _ (any_flat same_edge (λ a. edges_from same f rounds p body naming a (node_at f body naming a)) (reached same f rounds) (x, y))
      (like (some_item same tells (λ a. among same_edge (edges_from same f rounds p body naming a (node_at f body naming a)) (x, y)) (reached same f rounds))
      (λ h. let found = (from_tells h.0 (parts.1 h.0 h.1) x y (node_at f body naming h.0)).0 h.2 in
      record { from = h.0; to = found.1.0; reached = (reached_tells same tells f rounds parts.0 h.0).0 h.1; starts = found.0; ends = found.1.2; path = found.1.1; apart = found.1.3 })
      (λ e. let at = (reached_tells same tells f rounds parts.0 e.from).1 e.reached in
      (e.from, at, (from_tells e.from (parts.1 e.from at) x y (node_at f body naming e.from)).1 (e.starts, (e.to, e.path, e.ends, e.apart)))))

-- ---- from definitions to uses

pub definition_tells : (d : ℕ) (k : PointKind) → Decides (is_definition d k) (k ≡ kind.Definition d)
definition_tells d (kind.Definition e) = like (Decides-eqb e d) (λ h. ap kind.Definition h) (λ h. cc)
definition_tells d _ = (λ h. absurd (false≢true h), λ e. absurd (cc))

defined_tells : (d : ℕ) (o : Option Point) → Decides (defined_at d o) ((row : ℕ) × (o ≡ point row (kind.Definition d)))
defined_tells d None = like never (λ h. absurd h) (λ h. absurd (none-some _ h.1))
defined_tells d (Some x) = like (definition_tells d x.kind) (λ e. (x.row, ap Some (λ i. record { row = x.row; kind = e i }))) (λ h. ap (λ z. z.kind) (same_Some _ _ h.1))

used_if : {S : Type 0} (b : Bool) → Decides b S → (one i row j : ℕ) → Decides (among same_pair (map (λ k. (one, k)) (if b then row ∷ [] else [])) (i, j)) (S × ((one ≡ i) × (row ≡ j)))
used_if true d one i row j = like (either (pair_tells (one, row) (i, j)) never) (⊎_elim (λ e. (d.0 refl, (ap (λ z. z.0) e, ap (λ z. z.1) e))) (λ h. absurd h)) (λ h. inl (λ k. (h.1.0 k, h.1.1 k)))
used_if false d one i row j = like never (λ h. absurd h) (λ h. absurd (false≢true (d.1 h.0)))

used_tells : (d one i row j : ℕ) (k : PointKind) → Decides (among same_pair (map (λ j. (one, j)) (used_at d row k)) (i, j)) ((k ≡ kind.Use d) × ((one ≡ i) × (row ≡ j)))
used_tells d one i row j (kind.Use e) = like (used_if (nat_eq e d) (Decides-eqb e d) one i row j) (λ h. (ap kind.Use h.0, h.1)) (λ h. (cc, h.1))
used_tells d one i row j _ = like never (λ h. absurd h) (λ h. absurd (let e = h.0 in cc))

uses_tells : (d one i j : ℕ) (o : Option Point) → Decides (among same_pair (map (λ j. (one, j)) (uses_at d o)) (i, j)) ((one ≡ i) × (o ≡ point j (kind.Use d)))
uses_tells d one i j None = like never (λ h. absurd h) (λ h. absurd (none-some _ h.1))
uses_tells d one i j (Some x) = like (used_tells d one i x.row j x.kind) (λ h. (h.1.0, ap Some (λ k. record { row = h.1.1 k; kind = h.0 k })))
    (λ h. let e = same_Some _ _ h.1 in (ap (λ z. z.kind) e, (h.0, ap (λ z. z.row) e)))

module _ {A : Type 0} (same : A → A → Bool) (tells : (a b : A) → Decides (same a b) (a ≡ b)) (f : Flow A) (rounds : ℕ) where
  defines_tells : (d : ℕ) (a : A) → Decides (defines same f rounds d a) (Defines f d a)
  defines_tells d a = like (defined_tells d (f.point a)) (λ h. record { row = h.0; stands = h.1 }) (λ h. (h.row, h.stands))

  abbrev Uses : A → ℕ → ℕ → Type 0
  Uses a d j = (b : A) × Path f (Defines f d) a b × (f.point b ≡ point j (kind.Use d))

  abbrev DefinesAt : A → PointKind → ℕ → ℕ → ℕ → Type 0
  DefinesAt a k one i j = (d : ℕ) × (k ≡ kind.Definition d) × (one ≡ i) × Uses a d j

  uses_found : (a : A) (d one i j : ℕ) → are_ends same f rounds (defines same f rounds d) a ≡ true
      → Decides (among same_pair (uses_from same f rounds a one (kind.Definition d)) (i, j)) ((one ≡ i) × Uses a d j)
  uses_found a d one i j closed = Decides-at _ _ (any_flat same_pair (λ b. map (λ j. (one, j)) (uses_at d (f.point b))) (ends same f rounds (defines same f rounds d) a) (i, j))
      (like (some_item same tells (λ b. among same_pair (map (λ j. (one, j)) (uses_at d (f.point b))) (i, j)) (ends same f rounds (defines same f rounds d) a))
      (λ h. let found = (uses_tells d one i j (f.point h.0)).0 h.2 in
      (found.0, (h.0, (path_tells same tells f rounds (defines same f rounds d) (Defines f d) (defines_tells d) a closed h.0).0 h.1, found.1)))
      (λ h. (h.1.0, (path_tells same tells f rounds (defines same f rounds d) (Defines f d) (defines_tells d) a closed h.1.0).1 h.1.1, (uses_tells d one i j (f.point h.1.0)).1 (h.0, h.1.2))))

  definition_found : (a : A) (one i j : ℕ) (k : PointKind) → are_done same f rounds a k ≡ true → Decides (among same_pair (uses_from same f rounds a one k) (i, j)) (DefinesAt a k one i j)
  definition_found a one i j (kind.Definition d) closed = like (uses_found a d one i j closed) (λ h. (d, refl, h.0, h.1))
      (λ h. let k = h.1 in let e : h.0 ≡ d = cc in (h.2, subst (λ z. Uses a z j) e h.3))
  definition_found a one i j _ closed = like never (λ h. absurd h) (λ h. absurd (let e = h.1 in cc))

  point_found : (a : A) (i j : ℕ) (o : Option Point) → are_done_at same f rounds a o ≡ true
      → Decides (among same_pair (uses_behind same f rounds a o) (i, j)) ((d : ℕ) × (o ≡ point i (kind.Definition d)) × Uses a d j)
  point_found a i j None closed = like never (λ h. absurd h) (λ h. absurd (none-some _ h.1))
  point_found a i j (Some x) closed = like (definition_found a x.row i j x.kind closed) (λ h. (h.0, ap Some (λ k. record { row = h.2 k; kind = h.1 k }), h.3))
      (λ h. let e = same_Some _ _ h.1 in (h.0, ap (λ z. z.kind) e, ap (λ z. z.row) e, h.2))

  pub def_uses_tells : are_uses same f rounds ≡ true → (i j : ℕ) → Decides (among same_pair (def_uses same f rounds) (i, j)) (DefUse f i j)
  def_uses_tells done i j =
      let parts = (both (itself (are_reached same f rounds)) (every_item same tells (λ a. are_done_at same f rounds a (f.point a)) (reached same f rounds))).0 done in
      Decides-at _ _ (any_flat same_pair (λ a. uses_behind same f rounds a (f.point a)) (reached same f rounds) (i, j))
      (like (some_item same tells (λ a. among same_pair (uses_behind same f rounds a (f.point a)) (i, j)) (reached same f rounds))
      (λ h. let found = (point_found h.0 i j (f.point h.0) (parts.1 h.0 h.1)).0 h.2 in
      record { local = found.0; from = h.0; to = found.2.0; reached = (reached_tells same tells f rounds parts.0 h.0).0 h.1; defines = found.1; uses = found.2.2; path = found.2.1 })
      (λ u. let at = (reached_tells same tells f rounds parts.0 u.from).1 u.reached in
      (u.from, at, (point_found u.from i j (f.point u.from) (parts.1 u.from at)).1 (u.local, u.defines, (u.to, u.path, u.uses)))))
