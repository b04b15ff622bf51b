-- Edges of control on both sides of a change, by names, by numbers of points, and by their definition.
use Rattle.std.proofs.Common.{◌≡◌, ◌⊎◌, inl, inr, refl, sym, ◌∙◌, ap, ap₂, subst, arith, ℕ, zero, suc, ◌+◌, ◌<◌, ◌≤◌, Bool, true, false, ◌&&◌, if◌then◌else◌, List, length, Option, Some, None, IfNone, IfSome, is_some, nat_eq, nat_lt, slice_get}
use Rattle.std.specs.List.{Contains}
use Rattle.std.proofs.lemmas.Bool.{false≢true, cases_lt}
use Rattle.std.proofs.lemmas.Bool.Decides.{Decides-eqb, Decides-ltb, Decides-and}
use Rattle.std.proofs.lemmas.Option.{none-some, same_Some}
use Rattle.jr_tree.specs.Rows.{Rows, end}
use Rattle.jr_places.specs.Stamps.{is_stamped}
use Rattle.jr_flow_defs.specs.declared.point.Point.{Point}
use Rattle.jr_flow_defs.specs.declared.point.PointKind.TheVariants as kind
use Rattle.jr_flow_defs.specs.Paths.{Flow, IsReached, IsPoint}
use Rattle.jr_flow_defs.specs.Edges.{FlowNode, Naming, node_of_point, IsInside, IsGraph, own_number}
use Rattle.jr_flow_defs.specs.Graphs.{StepList, StepPath, PassesAt, is_node_point, EdgeByNumbers}
use Rattle.jr_flow_defs.specs.Computed.{is_inside}
use Rattle.jr_flow_defs.specs.Kept.{Same, Origin, KeepsControl, old_name, new_name}
use Rattle.jr_flow_defs.proofs.Numbered.{reached_along, step_path, onward_point}
use Rattle.jr_flow_defs.proofs.Reaching.{edges_go_by_numbers}
use Rattle.jr_flow.proofs.Gets.{got}
use Rattle.jr_kept.specs.declared.search.Side.{Side}
use Rattle.jr_kept.specs.declared.search.Search.{Search}
use Rattle.jr_kept.specs.Named.{no_name, node_of_number, node_by, IsNameOf, AreNames, origin_in}
use Rattle.jr_kept.specs.Copied.{HasEventsOnce}
use Rattle.jr_kept.specs.Searched.{AreWithin, AreFew, name_in, IsNamed, is_one_node, EdgeByNames, SideEdge, HasFound}
use Rattle.jr_kept.specs.declared.flows.Flows.{Flows}
use Rattle.jr_flow.specs.Reached.{steps_of}
use Rattle.jr_kept.specs.Compared.{SameFrom, SameNames, KeepsByNumbers, KeepsFlows}
use Rattle.jr_kept.proofs.Naming.{get_inside}
use Rattle.jr_kept.proofs.Searching.{got_or}

-- ---- numbers and nodes

abbrev acting_row : FlowNode → ℕ
acting_row (FlowNode.acting n) = n
acting_row _ = 0

same_number : (body x y : ℕ) → node_of_number body x ≡ node_of_number body y → x ≡ y
same_number body zero zero e = refl
same_number body zero (suc zero) e = absurd (let f = e in cc)
same_number body zero (suc (suc y)) e = absurd (let f = e in cc)
same_number body (suc zero) zero e = absurd (let f = e in cc)
same_number body (suc zero) (suc zero) e = refl
same_number body (suc zero) (suc (suc y)) e = absurd (let f = e in cc)
same_number body (suc (suc x)) zero e = absurd (let f = e in cc)
same_number body (suc (suc x)) (suc zero) e = absurd (let f = e in cc)
same_number body (suc (suc x)) (suc (suc y)) e = let same : body + x ≡ body + y = ap acting_row e in omega (arith, same)

known_node : (body c : ℕ) → (c ≡ no_name → ⊥) → node_by body c ≡ Some (node_of_number body c)
known_node body c apart = by (nat_eq c no_name) (Decides-eqb c no_name).0
  where
    by : (b : Bool) → (b ≡ true → c ≡ no_name) → (if b then None else Some (node_of_number body c)) ≡ Some (node_of_number body c)
    by true tells = absurd (apart (tells refl))
    by false tells = refl

-- a name that is that of a node
node_known : (body count c : ℕ) (o : Option FlowNode) (x : FlowNode) → IsNameOf body count c o → o ≡ Some x → (c ≡ no_name → ⊥) × (node_of_number body c ≡ x)
node_known body count c o x h e = (apart, same_Some (node_of_number body c) x (sym (known_node body c apart) ∙ h.is ∙ e))
  where
    apart : c ≡ no_name → ⊥
    apart same = none-some x (sym (ap (λ b. if b then None else Some (node_of_number body c)) ((Decides-eqb c no_name).1 same)) ∙ h.is ∙ e)

path_under : (steps : StepList) (S T : ℕ → Type 0) → ((k : ℕ) → T k → S k) → (i j : ℕ) → StepPath steps S i j → StepPath steps T i j
path_under steps S T weaker i j (StepPath.step t c) = StepPath.step t c
path_under steps S T weaker i j (StepPath.on {k = k} t path apart c) = StepPath.on t (path_under steps S T weaker i k path) (λ s. apart (weaker k s)) c

not_true : (b : Bool) → (b ≡ true → ⊥) → b ≡ false
not_true true h = absurd (h refl)
not_true false h = refl

inside_tells : (p : Rows) (inner outer : Point) → (is_inside p (Some inner) (Some outer) ≡ true → IsInside p inner outer) × (IsInside p inner outer → is_inside p (Some inner) (Some outer) ≡ true)
inside_tells p inner outer = let both = Decides-and (nat_lt outer.row inner.row) (nat_lt inner.row (end p outer.row)) (Decides-ltb outer.row inner.row) (Decides-ltb inner.row (end p outer.row)) in
    (λ e. let h = both.0 e in record { behind = h.0; within = h.1 }, λ h. both.1 (h.behind, h.within))

-- ---- edges by names are those by numbers

module _ (p : Rows) (points : List Point) (names : List ℕ) (steps : StepList) (body count : ℕ) (naming : Naming) (at : ℕ) (h : AreNames body count naming at points names) where
  abbrev Stops : ℕ → Type 0
  Stops k = PassesAt points (is_node_point at naming) k

  pub named_point : (k c : ℕ) → slice_get names k ≡ Some c → (x : Point) × (slice_get points k ≡ Some x) × IsNameOf body count c (node_of_point at naming x)
  named_point k c e = let size = h.size in let lt = get_inside names k c e in let one = got points k (omega (arith, size, lt)) in (one.0, one.1, h.named k one.0 c one.1 e)

  name_of : (k : ℕ) (x : Point) → slice_get points k ≡ Some x → (c : ℕ) × (slice_get names k ≡ Some c) × IsNameOf body count c (node_of_point at naming x)
  name_of k x e = let size = h.size in let lt = get_inside points k x e in let one = got names k (omega (arith, size, lt)) in (one.0, one.1, h.named k x one.0 e one.1)

  to_pass : (k : ℕ) → IsNamed names k → Stops k
  to_pass k m = let one = named_point k m.name m.has in record { point = one.0; stands = one.1; passes = ap is_some (sym one.2.is ∙ known_node body m.name m.known) }

  some_node : (o : Option FlowNode) → is_some o ≡ true → (x : FlowNode) × (o ≡ Some x)
  some_node None e = absurd (false≢true e)
  some_node (Some x) e = (x, refl)

  of_pass : (k : ℕ) → Stops k → IsNamed names k
  of_pass k s = let one = name_of k s.point s.stands in let node = some_node (node_of_point at naming s.point) s.passes in
      record { name = one.0; has = one.1; known = (node_known body count one.0 (node_of_point at naming s.point) node.0 one.2 node.1).0 }

  pub edge_up : (x y : ℕ) → (x ≡ no_name → ⊥) → EdgeByNames p points names steps x y → EdgeByNumbers p at naming points steps (node_of_number body x) (node_of_number body y)
  edge_up x y known e =
      let first = named_point e.from x e.starts in
      let second = named_point e.edge.to y e.edge.ends in
      record {
        from = e.from;
        to = e.edge.to;
        first = first.0;
        second = second.0;
        from_stands = first.1;
        to_stands = second.1;
        starts = sym first.2.is ∙ known_node body x known;
        ends = sym second.2.is ∙ known_node body y e.edge.known;
        path = path_under steps (λ k. IsNamed names k) Stops of_pass e.from e.edge.to e.edge.path;
        apart = λ both. false≢true (sym e.edge.apart ∙ ap₂ (λ a b. a && b)
            ((Decides-eqb (name_in names e.from) (name_in names e.edge.to)).1 (got_or names e.from no_name x e.starts ∙ same_number body x y both.0 ∙ sym (got_or names e.edge.to no_name y e.edge.ends)))
            (ap₂ (λ a b. is_inside p a b) first.1 second.1 ∙ (inside_tells p first.0 second.0).1 both.1));
      }

  -- an edge by names between these nodes
  pub record NamedEdge (x y : FlowNode) : Type 0 where
    pub first : ℕ
    pub second : ℕ
    pub starts : node_of_number body first ≡ x
    pub ends : node_of_number body second ≡ y
    pub few : first < count
    pub edge : EdgeByNames p points names steps first second

  pub edge_down : (x y : FlowNode) → EdgeByNumbers p at naming points steps x y → NamedEdge x y
  edge_down x y e =
      let first = name_of e.from e.first e.from_stands in
      let second = name_of e.to e.second e.to_stands in
      let a = node_known body count first.0 (node_of_point at naming e.first) x first.2 e.starts in
      let b = node_known body count second.0 (node_of_point at naming e.second) y second.2 e.ends in
      record {
        first = first.0;
        second = second.0;
        starts = a.1;
        ends = b.1;
        few = first.2.few a.0;
        edge = record {
          from = e.from;
          starts = first.1;
          edge = record {
            to = e.to;
            ends = second.1;
            known = b.0;
            path = path_under steps Stops (λ k. IsNamed names k) to_pass e.from e.to e.path;
            apart = not_true (is_one_node p points names e.from e.to) (λ t. let both = (Decides-and (nat_eq (name_in names e.from) (name_in names e.to)) (is_inside p (slice_get points e.from) (slice_get points e.to)) (Decides-eqb (name_in names e.from) (name_in names e.to)) (λ s. s, λ s. s)).0 t in
                e.apart (
                  sym a.1 ∙ ap (node_of_number body) (sym (got_or names e.from no_name first.0 first.1) ∙ both.0 ∙ got_or names e.to no_name second.0 second.1) ∙ b.1,
                  (inside_tells p e.first e.second).0 (sym (ap₂ (λ u v. is_inside p u v) e.from_stands e.to_stands) ∙ both.1),
                ));
          };
        };
      }

-- ---- both sides

module _ (p q : Rows) (points more : List Point) (names others : List ℕ) (s t : StepList) (body count : ℕ) (bound : count ≤ no_name) (naming other : Naming) (at to : ℕ) (h : AreNames body count naming at points names) (k : AreNames body count other to more others) where
  abbrev Names : Type 0
  Names = (x : ℕ) → x < count → (y : ℕ) → (EdgeByNames p points names s x y → EdgeByNames q more others t x y) × (EdgeByNames q more others t x y → EdgeByNames p points names s x y)

  abbrev Nodes : Type 0
  Nodes = Same (EdgeByNumbers p at naming points s) (EdgeByNumbers q to other more t)

  pub same_nodes : Names → Nodes
  same_nodes same x y = (old_to_new, new_to_old)
    where
      known : (n : ℕ) → n < count → n ≡ no_name → ⊥
      known n lt e = absurd (omega (arith, lt, e, bound))

      old_to_new : EdgeByNumbers p at naming points s x y → EdgeByNumbers q to other more t x y
      old_to_new e = let n = edge_down p points names s body count naming at h x y e in
          subst (λ z. EdgeByNumbers q to other more t z y) n.starts (subst (λ z. EdgeByNumbers q to other more t (node_of_number body n.first) z) n.ends
          (edge_up q more others t body count other to k n.first n.second (known n.first n.few) ((same n.first n.few n.second).0 n.edge)))

      new_to_old : EdgeByNumbers q to other more t x y → EdgeByNumbers p at naming points s x y
      new_to_old e = let n = edge_down q more others t body count other to k x y e in
          subst (λ z. EdgeByNumbers p at naming points s z y) n.starts (subst (λ z. EdgeByNumbers p at naming points s (node_of_number body n.first) z) n.ends
          (edge_up p points names s body count naming at h n.first n.second (known n.first n.few) ((same n.first n.few n.second).1 n.edge)))

  pub same_names : Nodes → Names
  same_names same x lt y = (old_to_new, new_to_old)
    where
      known : x ≡ no_name → ⊥
      known e = absurd (omega (arith, lt, e, bound))

      old_to_new : EdgeByNames p points names s x y → EdgeByNames q more others t x y
      old_to_new e = let n = edge_down q more others t body count other to k (node_of_number body x) (node_of_number body y) ((same (node_of_number body x) (node_of_number body y)).0 (edge_up p points names s body count naming at h x y known e)) in
          subst (λ z. EdgeByNames q more others t z y) (same_number body n.first x n.starts) (subst (λ z. EdgeByNames q more others t n.first z) (same_number body n.second y n.ends) n.edge)

      new_to_old : EdgeByNames q more others t x y → EdgeByNames p points names s x y
      new_to_old e = let n = edge_down p points names s body count naming at h (node_of_number body x) (node_of_number body y) ((same (node_of_number body x) (node_of_number body y)).1 (edge_up q more others t body count other to k x y known e)) in
          subst (λ z. EdgeByNames p points names s z y) (same_number body n.first x n.starts) (subst (λ z. EdgeByNames p points names s n.first z) (same_number body n.second y n.ends) n.edge)

names_into : (side : Side) (p : Rows) (points : List Point) (names : List ℕ) (s : StepList) → side.rows.now ≡ p → side.points.now ≡ points → side.names.items ≡ names → (x y : ℕ) → SideEdge side s x y → EdgeByNames p points names s x y
names_into side p points names s a b c x y e = subst (λ ns. EdgeByNames p points ns s x y) c (subst (λ ps. EdgeByNames p ps side.names.items s x y) b (subst (λ r. EdgeByNames r side.points.now side.names.items s x y) a e))

names_back : (side : Side) (p : Rows) (points : List Point) (names : List ℕ) (s : StepList) → side.rows.now ≡ p → side.points.now ≡ points → side.names.items ≡ names → (x y : ℕ) → EdgeByNames p points names s x y → SideEdge side s x y
names_back side p points names s a b c x y e = subst (λ r. EdgeByNames r side.points.now side.names.items s x y) (sym a) (subst (λ ps. EdgeByNames p ps side.names.items s x y) (sym b) (subst (λ ns. EdgeByNames p points ns s x y) (sym c) e))

module _ (old new : Side) (p q : Rows) (points more : List Point) (names others : List ℕ) (s t : StepList) (body count : ℕ) (naming other : Naming) (at to : ℕ)
    (a : old.rows.now ≡ p) (b : old.points.now ≡ points) (c : old.names.items ≡ names) (d : new.rows.now ≡ q) (e : new.points.now ≡ more) (f : new.names.items ≡ others)
    (bound : count ≤ no_name) (h : AreNames body count naming at points names) (k : AreNames body count other to more others) where
  abbrev SameNodes : Type 0
  SameNodes = Same (EdgeByNumbers p at naming points s) (EdgeByNumbers q to other more t)

  pub sides_up : SameNames old s new t count → SameNodes
  sides_up same = same_nodes p q points more names others s t body count bound naming other at to h k (λ x lt y. (
    λ g. names_into new q more others t d e f x y ((same x lt y).0 (names_back old p points names s a b c x y g)),
    λ g. names_into old p points names s a b c x y ((same x lt y).1 (names_back new q more others t d e f x y g)),
  ))

  pub sides_down : SameNodes → SameNames old s new t count
  sides_down same x lt y = let raw = same_names p q points more names others s t body count bound naming other at to h k same x lt y in (
    λ g. names_back new q more others t d e f x y (raw.0 (names_into old p points names s a b c x y g)),
    λ g. names_back old p points names s a b c x y (raw.1 (names_into new q more others t d e f x y g)),
  )

pub names_few : (body count : ℕ) (naming : Naming) (at : ℕ) (p : Rows) (points : List Point) (names : List ℕ) (steps : StepList) → AreNames body count naming at points names → AreFew names count
names_few body count naming at p points names steps h k c e known = (named_point p points names steps body count naming at h k c e).2.few known

-- ---- what two searches tell

one_way : (a b : Search) (one two : Side) (s t : StepList) (count x : ℕ) (r : Option ℕ) → HasFound a one s count x → HasFound b two t count x → IfNone r ((y : ℕ) → Contains a.targets.all.items y → is_stamped b.targets.met y ≡ true)
    → IfSome r (λ y. Contains a.targets.all.items y × (is_stamped b.targets.met y ≡ false)) → (r ≡ None → (y : ℕ) → SideEdge one s x y → SideEdge two t x y) × (((y : ℕ) → SideEdge one s x y → SideEdge two t x y) → r ≡ None)
one_way a b one two s t count x None f g none some = (λ e y edge. g.sound y (g.ready.targets.met y (none y (f.every y edge))), λ h. refl)
one_way a b one two s t count x (Some y) f g none some = (λ e. absurd (none-some y (sym e)), λ h. absurd (false≢true (sym some.1 ∙ g.ready.targets.listed y (g.every y (h y (f.sound y some.0))))))

pub both_ways : (a b : Search) (one two : Side) (s t : StepList) (count x : ℕ) (r u : Option ℕ) → HasFound a one s count x → HasFound b two t count x
    → IfNone r ((y : ℕ) → Contains a.targets.all.items y → is_stamped b.targets.met y ≡ true) → IfSome r (λ y. Contains a.targets.all.items y × (is_stamped b.targets.met y ≡ false))
    → IfNone u ((y : ℕ) → Contains b.targets.all.items y → is_stamped a.targets.met y ≡ true) → IfSome u (λ y. Contains b.targets.all.items y × (is_stamped a.targets.met y ≡ false))
    → ((r ≡ None) × (u ≡ None) → SameFrom one s two t x) × (SameFrom one s two t x → (r ≡ None) × (u ≡ None))
both_ways a b one two s t count x r u f g none some none_ some_ =
    let there = one_way a b one two s t count x r f g none some in
    let back = one_way b a two one t s count x u g f none_ some_ in
    (λ e y. (there.0 e.0 y, back.0 e.1 y), λ same. (there.1 (λ y. (same y).0), back.1 (λ y. (same y).1)))

-- ---- by the definition

pub steps_within : {A : Type 0} (f : Flow A) (body : ℕ) (points : List Point) (steps : StepList) → IsGraph f body points steps → AreWithin (length points) steps
steps_within f body points steps g i j t c = let s = g.only i j t c in
    let from = s.steps.from in
    let at = onward_point f s.steps.next s.to s.steps.onward in
    let reached = reached_along f (IsPoint f) (λ a x. x) s.from s.to s.reached (step_path f (IsPoint f) (λ a x. x) s.from s.to t s.steps) in (
      get_inside points i from.point (subst (λ k. slice_get points k ≡ Some from.point) s.numbers.0 (g.numbering.stands s.from from.point s.reached from.stands)),
      get_inside points j at.point (subst (λ k. slice_get points k ≡ Some at.point) s.numbers.1 (g.numbering.stands s.to at.point reached at.stands)),
    )

-- control comes to a place at which the point stands
pub record StandsAt {A : Type 0} (f : Flow A) (x : Point) : Type 0 where
  pub at : A
  pub reached : IsReached f at
  pub stands : f.point at ≡ Some x

-- a place of the number, where control comes to
pub record NumberedAt {A : Type 0} (f : Flow A) (number : A → ℕ) (x : Point) (k : ℕ) : Type 0 where
  pub at : A
  pub reached : IsReached f at
  pub stands : f.point at ≡ Some x
  pub numbered : number at ≡ k

pub late_place : {A : Type 0} (f : Flow A) (body : ℕ) (points : List Point) (steps : StepList) (g : IsGraph f body points steps) (k : ℕ) (x : Point) → slice_get points k ≡ Some x → 3 ≤ k → NumberedAt f g.number x k
late_place f body points steps g k x e le = let place = g.numbering.all k le (get_inside points k x e) in
    let same = same_Some place.1 x (sym (subst (λ m. slice_get points m ≡ Some place.1) place.4 (g.numbering.stands place.0 place.1 place.2 place.3)) ∙ e) in
    record { at = place.0; reached = place.2; stands = place.3 ∙ ap Some same; numbered = place.4 }

pub place_at : {A : Type 0} (f : Flow A) (body : ℕ) (points : List Point) (steps : StepList) (g : IsGraph f body points steps) (k : ℕ) (x : Point) → slice_get points k ≡ Some x → own_number x.kind ≡ None → NumberedAt f g.number x k
place_at f body points steps g k x e none = by (cases_lt k 3)
  where
    not_own : (y : Point) (m : ℕ) → slice_get points k ≡ Some y → own_number y.kind ≡ Some m → ⊥
    not_own y m there is = none-some m (sym none ∙ ap (λ z. own_number z.kind) (same_Some x y (sym e ∙ there)) ∙ is)

    own : (m : ℕ) → k ≡ m → m < 3 → ⊥
    own zero same lt = not_own (record { row = body; kind = kind.Entry }) 0 (ap (slice_get points) same ∙ g.numbering.entry) refl
    own (suc zero) same lt = not_own (record { row = body; kind = kind.Exit }) 1 (ap (slice_get points) same ∙ g.numbering.exit) refl
    own (suc (suc zero)) same lt = not_own (record { row = body; kind = kind.Thrown }) 2 (ap (slice_get points) same ∙ g.numbering.thrown) refl
    own (suc (suc (suc m))) same lt = absurd (omega (arith, lt))

    by : (k < 3) ⊎ (3 ≤ k) → NumberedAt f g.number x k
    by (inl lt) = absurd (own k refl lt)
    by (inr le) = late_place f body points steps g k x e le

pub place_of : {A : Type 0} (f : Flow A) (body : ℕ) (points : List Point) (steps : StepList) → IsGraph f body points steps → (k : ℕ) (x : Point) → slice_get points k ≡ Some x → own_number x.kind ≡ None → StandsAt f x
place_of f body points steps g k x e none = let place = place_at f body points steps g k x e none in record { at = place.at; reached = place.reached; stands = place.stands }

module _ {A B : Type 0} (p q : Rows) (f : Flow A) (g : Flow B) (old new : ℕ) (dropped : Option ℕ) (origin : Origin) (points more : List Point) (s t : StepList) (before : IsGraph f old points s) (after : IsGraph g new more t) where
  abbrev SameNumbers : Type 0
  SameNumbers = Same (EdgeByNumbers p old (λ n. old_name p dropped n) points s) (EdgeByNumbers q new (λ n. new_name p dropped origin n) more t)

  pub control_kept : HasEventsOnce p dropped origin points → SameNumbers → KeepsControl p q f g old new dropped origin
  control_kept once same = record {
    once = λ n k. once (before.number k.at) (record { row = n; kind = kind.Node }) (before.numbering.stands k.at (record { row = n; kind = kind.Node }) k.reached k.stands) (record { name = k.name; node = refl; named = k.named; event = k.event });
    same = λ x y. (
      λ e. (edges_go_by_numbers q g new more t after (λ n. new_name p dropped origin n) x y).1 ((same x y).0 ((edges_go_by_numbers p f old points s before (λ n. old_name p dropped n) x y).0 e)),
      λ e. (edges_go_by_numbers p f old points s before (λ n. old_name p dropped n) x y).1 ((same x y).1 ((edges_go_by_numbers q g new more t after (λ n. new_name p dropped origin n) x y).0 e)),
    );
  }

  pub kept_once : KeepsControl p q f g old new dropped origin → HasEventsOnce p dropped origin points
  kept_once kept k x e event = let place = place_of f old points s before k x e (ap own_number event.node) in
      kept.once x.row (record { at = place.at; reached = place.reached; stands = place.stands ∙ ap Some node_is; name = event.name; named = event.named; event = event.event })
    where
      node_is : x ≡ record { row = x.row; kind = kind.Node }
      node_is = ap (λ z. record { row = x.row; kind = z }) event.node

  pub kept_numbers : KeepsControl p q f g old new dropped origin → SameNumbers
  kept_numbers kept x y = (
    λ e. (edges_go_by_numbers q g new more t after (λ n. new_name p dropped origin n) x y).0 ((kept.same x y).0 ((edges_go_by_numbers p f old points s before (λ n. old_name p dropped n) x y).1 e)),
    λ e. (edges_go_by_numbers p f old points s before (λ n. old_name p dropped n) x y).0 ((kept.same x y).1 ((edges_go_by_numbers q g new more t after (λ n. new_name p dropped origin n) x y).1 e)),
  )

module _ {A B : Type 0} (flows : Flows) (f : Flow A) (g : Flow B) (before : IsGraph f flows.before.now.body flows.before.now.points.items (steps_of flows.before.now)) (after : IsGraph g flows.after.now.body flows.after.now.points.items (steps_of flows.after.now)) where
  pub flows_kept : KeepsByNumbers flows → KeepsFlows flows f g
  flows_kept h = control_kept flows.names.rows.now flows.rows.now f g flows.before.now.body flows.after.now.body flows.names.dropped (origin_in flows.origin.now) flows.before.now.points.items flows.after.now.points.items (steps_of flows.before.now) (steps_of flows.after.now) before after h.once h.same

  pub flows_numbered : KeepsFlows flows f g → KeepsByNumbers flows
  flows_numbered h = record {
    once = kept_once flows.names.rows.now flows.rows.now f g flows.before.now.body flows.after.now.body flows.names.dropped (origin_in flows.origin.now) flows.before.now.points.items flows.after.now.points.items (steps_of flows.before.now) (steps_of flows.after.now) before after h;
    same = kept_numbers flows.names.rows.now flows.rows.now f g flows.before.now.body flows.after.now.body flows.names.dropped (origin_in flows.origin.now) flows.before.now.points.items flows.after.now.points.items (steps_of flows.before.now) (steps_of flows.after.now) before after h;
  }
