-- A copy of a flow has its edges.
use Rattle.std.proofs.Common.{◌≡◌, ◌⊎◌, refl, sym, ◌∙◌, ap, ap₂, subst, ⊎_elim, arith, ℕ, Bool, true, false, if◌then◌else◌, List, [], ◌∷◌, Option, Some, None, option_map, option_and_then, nat_eq, Decides}
use Rattle.std.specs.List.{Contains}
use Rattle.std.proofs.lemmas.Bool.{false≢true}
use Rattle.std.proofs.lemmas.Option.{none-some, same_Some}
use Rattle.std.proofs.lemmas.Bool.Decides.{Decides-eqb}
use Rattle.jr_tree.specs.Rows.{Rows}
use Rattle.jr_flow_defs.specs.declared.point.Point.{Point}
use Rattle.jr_flow_defs.specs.declared.point.PointKind.{PointKind}
use Rattle.jr_flow_defs.specs.declared.point.PointKind.TheVariants as kind
use Rattle.jr_flow_defs.specs.States.{Hop}
use Rattle.jr_flow_defs.specs.Paths.{Flow, Goes, IsReached, Path}
use Rattle.jr_flow_defs.specs.Edges.{point, FlowNode, Naming, named_by, own_by, or_node, node_of_point, node_at, IsNode, IsInside, IsOneName, ControlEdge, Defines, DefUse}
use Rattle.jr_flow_defs.specs.Kept.{each_hop}
use Rattle.jr_flow_defs.specs.Copied.{moved_kind, moved_point, IsCopied, IsNamedAlike, HasOriginal, CopiesKeepEdges}
use Rattle.jr_flow_defs.proofs.Searched.{contains_out, contains_first, contains_more}

moved_hop : {A B : Type 0} → (A → B) → Hop A → Hop B
moved_hop move h = record { to = move h.to; is_throw = h.is_throw }

each_into : {A B : Type 0} (move : A → B) (all : List (Hop A)) (h : Hop A) → Contains all h → Contains (each_hop move all) (record { to = move h.to; is_throw = h.is_throw })
each_into move [] h c = absurd (omega (arith, c.1))
each_into move (one ∷ all) h c = ⊎_elim (λ e. subst (λ z. Contains (each_hop move (one ∷ all)) (record { to = move z.to; is_throw = z.is_throw })) e (contains_first (record { to = move one.to; is_throw = one.is_throw }) (each_hop move all)))
    (λ more. contains_more (record { to = move one.to; is_throw = one.is_throw }) (each_hop move all) (record { to = move h.to; is_throw = h.is_throw }) (each_into move all h more)) (contains_out one all h c)

each_out : {A B : Type 0} (move : A → B) (all : List (Hop A)) (k : Hop B) → Contains (each_hop move all) k → (h : Hop A) × Contains all h × (move h.to ≡ k.to)
each_out move [] k c = absurd (omega (arith, c.1))
each_out move (one ∷ all) k c = ⊎_elim (λ e. (one, contains_first one all, ap (λ z. z.to) e))
    (λ more. let found = each_out move all k more in (found.0, contains_more one all found.0 found.1, found.2)) (contains_out (record { to = move one.to; is_throw = one.is_throw }) (each_hop move all) k c)

-- two tests of what goes both ways
same_test : {P Q : Type 0} (b c : Bool) → Decides b P → Decides c Q → (P → Q) → (Q → P) → b ≡ c
same_test true true d e there back = refl
same_test false false d e there back = refl
same_test true false d e there back = absurd (false≢true (e.1 (there (d.0 refl))))
same_test false true d e there back = absurd (false≢true (d.1 (back (e.0 refl))))

module _ {A B : Type 0} (f : Flow A) (g : Flow B) (move : A → B) (row : ℕ → ℕ) (copied : IsCopied f g move row) where
  goes_over : (a b : A) → IsReached f a → Goes f a b → Goes g (move a) (move b)
  goes_over a b r h = record { is_throw = h.is_throw; hop = subst (λ all. Contains all (record { to = move b; is_throw = h.is_throw })) (sym (copied.hops a r)) (each_into move (f.hops a) (record { to = b; is_throw = h.is_throw }) h.hop) }

  -- a hop of the copy is that of a hop
  record Back (a : A) (c : B) : Type 0 where
    to : A
    goes : Goes f a to
    moved : move to ≡ c

  goes_back : (a : A) (c : B) → IsReached f a → Goes g (move a) c → Back a c
  goes_back a c r h = let found = each_out move (f.hops a) (record { to = c; is_throw = h.is_throw }) (subst (λ all. Contains all (record { to = c; is_throw = h.is_throw })) (copied.hops a r) h.hop) in
      record { to = found.0.to; goes = record { is_throw = found.0.is_throw; hop = found.1 }; moved = found.2 }

  reached_over : (a : A) → IsReached f a → IsReached g (move a)
  reached_over a IsReached.start = subst (IsReached g) copied.start IsReached.start
  reached_over b (IsReached.on {a = a} r h) = IsReached.on (reached_over a r) (goes_over a b r h)

  -- a place of the original
  record Original (c : B) : Type 0 where
    at : A
    reached : IsReached f at
    moved : move at ≡ c

  reached_back : (c : B) → IsReached g c → Original c
  reached_back c IsReached.start = record { at = f.start; reached = IsReached.start; moved = sym copied.start }
  reached_back c (IsReached.on {a = d} r h) = let o = reached_back d r in
      let back = goes_back o.at c o.reached (subst (λ z. Goes g z c) (sym o.moved) h) in
      record { at = back.to; reached = IsReached.on o.reached back.goes; moved = back.moved }

  module _ (S : A → Type 0) (T : B → Type 0) where
    ends_reached : (a b : A) → IsReached f a → Path f S a b → IsReached f b
    ends_reached a b r (Path.hop h) = IsReached.on r h
    ends_reached a b r (Path.on {r = c} path apart h) = IsReached.on (ends_reached a c r path) h

    path_over : ((a : A) → IsReached f a → T (move a) → S a) → (a b : A) → IsReached f a → Path f S a b → Path g T (move a) (move b)
    path_over weaker a b r (Path.hop h) = Path.hop (goes_over a b r h)
    path_over weaker a b r (Path.on {r = c} path apart h) = let s = ends_reached a c r path in Path.on (path_over weaker a c r path) (λ t. apart (weaker c s t)) (goes_over c b s h)

    record PathBack (a : A) (c : B) : Type 0 where
      to : A
      path : Path f S a to
      moved : move to ≡ c

    path_back : ((a : A) → IsReached f a → S a → T (move a)) → (a : A) (c : B) → IsReached f a → Path g T (move a) c → PathBack a c
    path_back stronger a c r (Path.hop h) = let back = goes_back a c r h in record { to = back.to; path = Path.hop back.goes; moved = back.moved }
    path_back stronger a c r (Path.on {r = d} path apart h) = let p = path_back stronger a d r path in
        let s = ends_reached a p.to r p.path in
        let back = goes_back p.to c s (subst (λ z. Goes g z c) (sym p.moved) h) in
        record { to = back.to; path = Path.on p.path (λ t. apart (subst T p.moved (stronger p.to s t))) back.goes; moved = back.moved }

  -- ---- points

  -- the point of the original
  record PointBack (o : Option Point) (x : Point) : Type 0 where
    point : Point
    stands : o ≡ Some point
    moved : moved_point row point ≡ x

  point_back : (o : Option Point) (x : Point) → option_map (moved_point row) o ≡ Some x → PointBack o x
  point_back None x e = absurd (none-some x e)
  point_back (Some y) x e = record { point = y; stands = refl; moved = same_Some _ _ e }

  point_at : (a : A) (c : B) (x : Point) → IsReached f a → move a ≡ c → g.point c ≡ Some x → PointBack (f.point a) x
  point_at a c x r m e = point_back (f.point a) x (sym (copied.points a r) ∙ (ap g.point m ∙ e))

  point_over : (a : A) (x : Point) → IsReached f a → f.point a ≡ Some x → g.point (move a) ≡ Some (moved_point row x)
  point_over a x r e = copied.points a r ∙ ap (option_map (moved_point row)) e

  -- the local of the original
  record LocalBack (k : PointKind) (of : ℕ → PointKind) (l : ℕ) : Type 0 where
    local : ℕ
    is : k ≡ of local
    moved : row local ≡ l

  definition_back : (k : PointKind) (l : ℕ) → moved_kind row k ≡ kind.Definition l → LocalBack k kind.Definition l
  definition_back (kind.Definition d) l e = record { local = d; is = refl; moved = cc }
  definition_back _ l e = absurd (cc)

  use_back : (k : PointKind) (l : ℕ) → moved_kind row k ≡ kind.Use l → LocalBack k kind.Use l
  use_back (kind.Use d) l e = record { local = d; is = refl; moved = cc }
  use_back _ l e = absurd (cc)

  defines_over : (d : ℕ) (a : A) → IsReached f a → Defines f d a → Defines g (row d) (move a)
  defines_over d a r s = record { row = row s.row; stands = point_over a (record { row = s.row; kind = kind.Definition d }) r s.stands }

  defines_back : (d : ℕ) (a : A) → IsReached f a → Defines g (row d) (move a) → Defines f d a
  defines_back d a r s =
      let x = point_at a (move a) (record { row = s.row; kind = kind.Definition (row d) }) r refl s.stands in
      let l = definition_back x.point.kind (row d) (ap (λ z. z.kind) x.moved) in
      record { row = x.point.row; stands = x.stands ∙ ap Some (λ i. record { row = x.point.row; kind = (l.is ∙ ap kind.Definition (copied.apart l.local d l.moved)) i }) }

  -- ---- from definitions to uses

  use_over : (i j : ℕ) → DefUse f i j → DefUse g (row i) (row j)
  use_over i j u =
      let there = ends_reached (Defines f u.local) (Defines g (row u.local)) u.from u.to u.reached u.path in
      record {
        local = row u.local;
        from = move u.from;
        to = move u.to;
        reached = reached_over u.from u.reached;
        defines = point_over u.from (record { row = i; kind = kind.Definition u.local }) u.reached u.defines;
        uses = point_over u.to (record { row = j; kind = kind.Use u.local }) there u.uses;
        path = path_over (Defines f u.local) (Defines g (row u.local)) (λ a r s. defines_back u.local a r s) u.from u.to u.reached u.path;
      }

  original : (i j : ℕ) → DefUse g i j → HasOriginal f row i j
  original i j u =
      let o = reached_back u.from u.reached in
      let x = point_at o.at u.from (record { row = i; kind = kind.Definition u.local }) o.reached o.moved u.defines in
      let d = definition_back x.point.kind u.local (ap (λ z. z.kind) x.moved) in
      let path = path_back (Defines f d.local) (Defines g u.local) (λ a r s. subst (λ z. Defines g z (move a)) d.moved (defines_over d.local a r s)) o.at u.to o.reached
      (subst (λ z. Path g (Defines g u.local) z u.to) (sym o.moved) u.path) in
      let there = ends_reached (Defines f d.local) (Defines g u.local) o.at path.to o.reached path.path in
      let y = point_at path.to u.to (record { row = j; kind = kind.Use u.local }) there path.moved u.uses in
      let e = use_back y.point.kind u.local (ap (λ z. z.kind) y.moved) in
      let same = copied.apart e.local d.local (e.moved ∙ sym d.moved) in
      record {
        from = x.point.row;
        to = y.point.row;
        rows = (ap (λ z. z.row) x.moved, ap (λ z. z.row) y.moved);
        reaches = record {
          local = d.local;
          from = o.at;
          to = path.to;
          reached = o.reached;
          defines = x.stands ∙ ap Some (λ i. record { row = x.point.row; kind = d.is i });
          uses = y.stands ∙ ap Some (λ i. record { row = y.point.row; kind = (e.is ∙ ap kind.Use same) i });
          path = path.path;
        };
      }

  -- ---- edges of control

  module _ (p q : Rows) (body : ℕ) (naming other : Naming) (alike : IsNamedAlike p q f row naming other) where
    named_over : (k : PointKind) (n : ℕ) → other (row n) ≡ naming n → named_by (moved_kind row k) other (row n) ≡ named_by k naming n
    named_over kind.Node n e = ap (option_map FlowNode.acting) e
    named_over _ n e = refl

    own_over : (k : PointKind) → own_by (moved_kind row k) ≡ own_by k
    own_over kind.Entry = refl
    own_over _ = refl

    same_row : (m n : ℕ) → nat_eq (row m) (row n) ≡ nat_eq m n
    same_row m n = same_test (nat_eq (row m) (row n)) (nat_eq m n) (Decides-eqb (row m) (row n)) (Decides-eqb m n) (copied.apart m n) (ap row)

    node_over : (x : Point) → other (row x.row) ≡ naming x.row → node_of_point (row body) other (moved_point row x) ≡ node_of_point body naming x
    node_over x e = ap₂ or_node (named_over x.kind x.row e) (ap₂ (λ t o. if t then o else None) (same_row x.row body) (own_over x.kind))

    node_in : (o : Option Point) → ((x : Point) → o ≡ Some x → other (row x.row) ≡ naming x.row)
        → option_and_then (node_of_point (row body) other) (option_map (moved_point row) o) ≡ option_and_then (node_of_point body naming) o
    node_in None e = refl
    node_in (Some x) e = node_over x (e x refl)

    same_node_at : (a : A) → IsReached f a → node_at g (row body) other (move a) ≡ node_at f body naming a
    same_node_at a r = ap (option_and_then (node_of_point (row body) other)) (copied.points a r) ∙ node_in (f.point a) (λ x e. alike.names a x r e)

    abbrev Here : A → Type 0
    Here = IsNode f body naming

    abbrev There : B → Type 0
    There = IsNode g (row body) other

    is_node_back : (a : A) → IsReached f a → There (move a) → Here a
    is_node_back a r s = record { node = s.node; stands = sym (same_node_at a r) ∙ s.stands }

    is_node_over : (a : A) → IsReached f a → Here a → There (move a)
    is_node_over a r s = record { node = s.node; stands = same_node_at a r ∙ s.stands }

    one_name_back : (x y : FlowNode) (a b : A) → IsReached f a → IsReached f b → IsOneName q g x y (move a) (move b) → IsOneName p f x y a b
    one_name_back x y a b r s o =
        let inner = point_at a (move a) o.inner r refl o.first in
        let outer = point_at b (move b) o.outer s refl o.second in
        record {
          same = o.same;
          inner = inner.point;
          outer = outer.point;
          first = inner.stands;
          second = outer.stands;
          inside = (alike.inside a b inner.point outer.point r s inner.stands outer.stands).1 (subst (λ z. IsInside q z (moved_point row outer.point)) (sym inner.moved) (subst (λ z. IsInside q o.inner z) (sym outer.moved) o.inside));
        }

    one_name_over : (x y : FlowNode) (a b : A) → IsReached f a → IsReached f b → IsOneName p f x y a b → IsOneName q g x y (move a) (move b)
    one_name_over x y a b r s o = record {
      same = o.same;
      inner = moved_point row o.inner;
      outer = moved_point row o.outer;
      first = point_over a o.inner r o.first;
      second = point_over b o.outer s o.second;
      inside = (alike.inside a b o.inner o.outer r s o.first o.second).0 o.inside;
    }

    edge_over : (x y : FlowNode) → ControlEdge p f body naming x y → ControlEdge q g (row body) other x y
    edge_over x y e =
        let there = ends_reached Here There e.from e.to e.reached e.path in
        record {
          from = move e.from;
          to = move e.to;
          reached = reached_over e.from e.reached;
          starts = same_node_at e.from e.reached ∙ e.starts;
          ends = same_node_at e.to there ∙ e.ends;
          path = path_over Here There is_node_back e.from e.to e.reached e.path;
          apart = λ o. e.apart (one_name_back x y e.from e.to e.reached there o);
        }

    edge_back : (x y : FlowNode) → ControlEdge q g (row body) other x y → ControlEdge p f body naming x y
    edge_back x y e =
        let o = reached_back e.from e.reached in
        let path = path_back Here There is_node_over o.at e.to o.reached (subst (λ z. Path g There z e.to) (sym o.moved) e.path) in
        let there = ends_reached Here There o.at path.to o.reached path.path in
        record {
          from = o.at;
          to = path.to;
          reached = o.reached;
          starts = sym (same_node_at o.at o.reached) ∙ (ap (node_at g (row body) other) o.moved ∙ e.starts);
          ends = sym (same_node_at path.to there) ∙ (ap (node_at g (row body) other) path.moved ∙ e.ends);
          path = path.path;
          apart = λ n. e.apart (subst (λ z. IsOneName q g x y e.from z) path.moved (subst (λ z. IsOneName q g x y z (move path.to)) o.moved (one_name_over x y o.at path.to o.reached there n)));
        }

  pub copies_keep_edges : CopiesKeepEdges f g row
  copies_keep_edges = record { uses = use_over; originals = original; control = λ p q body naming other alike x y. (edge_over p q body naming other alike x y, edge_back p q body naming other alike x y) }
