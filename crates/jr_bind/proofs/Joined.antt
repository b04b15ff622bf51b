-- A table whose rows are confirmed is confirmed, and the edges that were found are those of its header graph between types that are not settled.
use Rattle.std.proofs.Common.{◌≡◌, ◌⊎◌, refl, sym, ◌∙◌, subst, inl, inr, ⊎_elim, arith, ℕ, ◌+◌, ◌<◌, ◌≤◌, List, Option, Some, None}
use Rattle.jr_tree.specs.declared.label.Label.TheVariants as is
use Rattle.jr_tree.specs.declared.label.ImportKind.{ImportKind}
use Rattle.jr_tree.specs.Rows.{Rows, label}
use Rattle.jr_defs.specs.declared.referent.Referent.TheVariants.{Declared}
use Rattle.jr_defs.specs.Referents.{Table}
use Rattle.jr_defs.specs.Declarations.{IsType}
use Rattle.jr_defs.specs.Enclosing.{DeclaredIn}
use Rattle.jr_defs.specs.Headers.{NamesHeader, IsIdentifierOf, NameMeets, IsSettled, MeetsAt, ComesBefore, HeaderEdge}
use Rattle.jr_defs.specs.Formed.{IsFormed}
use Rattle.jr_places.specs.declared.chains.Entry.{Entry}
use Rattle.jr_headers.specs.Rounds.{look_type, name_or_same}
use Rattle.jr_headers.specs.Confirmed.{WaitsFor, IsConfirmed}
use Rattle.jr_plain.specs.Types.{referred_type}
use Rattle.jr_plain.proofs.Bounds.{type_below}
use Rattle.jr_headers.proofs.Headed.{header_below}
use Rattle.jr_headers.proofs.Given.{at_name, at_other}
use Rattle.jr_headers.proofs.Names.{import_names_none, inner_names_none, import_seeks, import_row}
use Rattle.jr_headers.proofs.Confirmed.{settled, ranked}
use Rattle.jr_bind.specs.Rounds.{IsEdgeIn}
use Rattle.jr_bind.specs.Edges.{AreHeaderEdges}
use Rattle.jr_bind.specs.Edges.{FindsType, IsBefore, IsPlace, IsLookedAt, IsNameConfirmed, IsOpenEdge, AreConfirmed}
use Rattle.jr_lookup.proofs.Importing.{referred_finds}

same_name : (p : Rows) (n k m j : ℕ) → ComesBefore p n k m j → n ≡ m
same_name p n k _ j (ComesBefore.by_import le) = refl
same_name p n k _ j (ComesBefore.within low lt) = refl

module _ (p : Rows) (formed : IsFormed p) (u : Table) (rank : ℕ → ℕ) (edges : List Entry) (h : AreConfirmed p u rank edges) where
  abbrev x : Table
  x = name_or_same p u

  confirmed_name : (c n : ℕ) → NamesHeader p c n → IsNameConfirmed p u rank edges c n
  confirmed_name c n w = (h.each n (header_below p c n w)).header c w

  side : (a b : ℕ) → a ≤ b → (a ≡ b) ⊎ (a < b)
  side a b le = grind arith

  import_none : (i m d : ℕ) (form : ImportKind) → label p i ≡ is.Import form → IsIdentifierOf p (i + 1) m → NamesHeader p d m → ⊥
  import_none i m d form e q w = elim (side (i + 1) m q.from) [
    | inl z ↦ import_names_none p formed i d form e (subst (NamesHeader p d) (sym z) w)
    | inr lt ↦ inner_names_none p formed (i + 1) m d (import_seeks p formed i form e) q lt w
  ]

  -- at the places of a name the table with names looked up has what lookup gives
  module _ (c n : ℕ) (w : NamesHeader p c n) (first : Option ℕ) (looked : IsLookedAt p u rank c n first) where
    same_at : (k : ℕ) → IsPlace p u n k → x k ≡ look_type p u k
    same_at k (inl i) = by (side n k i.from)
      where
        at_last : x n ≡ look_type p u n
        at_last = at_name p (look_type p u n) (u n) c n w

        by : (n ≡ k) ⊎ (n < k) → x k ≡ look_type p u k
        by (inl z) = subst (λ j. x j ≡ look_type p u j) z at_last
        by (inr lt) = at_other p (look_type p u k) (u k) k (λ d v. inner_names_none p formed n k d (formed.header_name c n w) i lt v) ∙ looked.inner k i lt
    same_at k (inr q) = at_other p (look_type p u k) (u k) k (λ d v. import_none q.1 k d q.3.form q.3.import.import q.4 v) ∙ looked.imports q.0 q.1 k q.2 q.3 q.4

    meets_at : (k s : ℕ) → IsPlace p u n k → FindsType p u k s → MeetsAt p x u c n k s
    meets_at k s place f = let z = (referred_finds p (look_type p u k) s).0 f in record { header = w; level = z.0; refers = same_at k place ∙ z.1; type = z.2; place = place }

    finds_at : (k s : ℕ) (level : Option ℕ) → IsPlace p u n k → x k ≡ Declared s level → IsType p s → FindsType p u k s
    finds_at k s level place e t = (referred_finds p (look_type p u k) s).1 (level, sym (same_at k place) ∙ e, t)

    finds : (s : ℕ) → NameMeets p x u n s → (k : ℕ) × IsPlace p u n k × FindsType p u k s
    finds s (NameMeets.own {m = k} {level = level} i e t) = (k, inl i, finds_at k s level (inl i) e t)
    finds s (NameMeets.import {m = m} {i = i} {k = k} {level = level} f z q e t) = let place : IsPlace p u n k = inr (m, i, f, z, q) in (k, place, finds_at k s level place e t)

    meets : (k s : ℕ) (level : Option ℕ) → IsPlace p u n k → x k ≡ Declared s level → IsType p s → NameMeets p x u n s
    meets k s level (inl i) e t = NameMeets.own i e t
    meets k s level (inr q) e t = NameMeets.import q.2 q.3 q.4 e t

  -- ---- the table

  before_ranked : (c s : ℕ) → 0 < rank c → IsBefore rank c s → (0 < rank s) × (rank s < rank c)
  before_ranked c s lt b = (b.0, ⊎_elim (λ z. absurd (omega arith)) (λ less. less) b.1)

  behind_met : (c n s : ℕ) → NamesHeader p c n → 0 < rank c → NameMeets p x u n s → IsBefore rank c s
  behind_met c n s w lt m = let it = confirmed_name c n w in let k = finds c n w it.first it.looked s m in it.looked.none ((it.kept lt).1) k.0 s k.1 k.2

  behind : (c s : ℕ) → IsType p c → 0 < rank c → WaitsFor p u c s → (0 < rank s) × (rank s < rank c)
  behind c s type lt (inl d) = before_ranked c s lt (((h.each c (type_below p c type)).outer type).kept s d lt)
  behind c s type lt (inr m) = before_ranked c s lt (behind_met c m.row s m.header lt m.meets)

  open_waits : (c s : ℕ) → IsOpenEdge p u rank c s → (rank s ≡ 0) × WaitsFor p u c s
  open_waits c s (IsOpenEdge.outwards z d) = (z, inl d)
  open_waits c s (IsOpenEdge.header {n = n} z around w first looked e) = let it = looked.some s e in let at = meets_at c n w first looked it.0 s it.1 it.2 in
      (z, inr (record { row = n; header = w; meets = meets c n w first looked it.0 s at.level it.1 at.refers at.type }))

  stuck : (c : ℕ) → IsType p c → rank c ≡ 0 → (s : ℕ) × (rank s ≡ 0) × WaitsFor p u c s
  stuck c type z = let it = h.stuck c type z in let w = open_waits c it.0 ((h.are.sound c it.0 it.1).2) in (it.0, w.0, w.1)

  pub confirmed : IsConfirmed p u rank
  confirmed = record {
    inner = λ c n m w i lt. (confirmed_name c n w).looked.inner m i lt;
    imports = λ c n m i k w f z q. (confirmed_name c n w).looked.imports m i k f z q;
    ends = λ i d form e w. (h.each i (import_row p formed i form e)).import d form e w;
    names = λ c n w lt. ((confirmed_name c n w).kept lt).0;
    left = λ c n w z. ((confirmed_name c n w).left z).0;
    behind = behind;
    stuck = stuck;
  }

  -- ---- the graph

  around_ranked : (c : ℕ) → ((e : ℕ) → DeclaredIn p e c → IsSettled p x u e) → (e : ℕ) → DeclaredIn p e c → 0 < rank e
  around_ranked c around e d = ranked p formed u rank confirmed e d.inside.type (around e d)

  edge_of : (c s : ℕ) → IsOpenEdge p u rank c s → HeaderEdge p x u c s
  edge_of c s (IsOpenEdge.outwards z d) = HeaderEdge.outwards d
  edge_of c s (IsOpenEdge.header {n = n} z around w first looked e) = let it = looked.some s e in
      HeaderEdge.header (λ o d. settled p formed u rank confirmed o d.inside.type (around o d)) (meets_at c n w first looked it.0 s it.1 it.2) (λ m j r v b. before m j r v b (same_name p m j n it.0 b))
    where
      before : (m j r : ℕ) → MeetsAt p x u c m j r → ComesBefore p m j n ((looked.some s e).0) → m ≡ n → IsSettled p x u r
      before m j r v b same = let place = subst (λ m. IsPlace p u m j) same v.place in let f = finds_at c n w first looked j r v.level place v.refers v.type in
          settled p formed u rank confirmed r v.type (((looked.some s e).4 j r place (subst (λ m. ComesBefore p m j n ((looked.some s e).0)) same b) f).0)

  not_before : (c s : ℕ) → rank s ≡ 0 → IsBefore rank c s → ⊥
  not_before c s z b = let up = b.0 in omega arith

  no_settled : (c k s : ℕ) → rank c ≡ 0 → (IsBefore rank c s → ⊥) → IsType p s → IsSettled p x u s → ⊥
  no_settled c k s z no' type is = no' (ranked p formed u rank confirmed s type is, inl z)

  -- the first type of a name that is not settled is the one of its edge
  module _ (c n k s : ℕ) (zc : rank c ≡ 0) (zs : rank s ≡ 0) (v : MeetsAt p x u c n k s) (before : (m j r : ℕ) → MeetsAt p x u c m j r → ComesBefore p m j n k → IsSettled p x u r) where
    it : IsNameConfirmed p u rank edges c n
    it = confirmed_name c n v.header

    here : FindsType p u k s
    here = finds_at c n v.header it.first it.looked k s v.level v.place v.refers v.type

    first_is : (first : Option ℕ) → it.first ≡ first → first ≡ Some s
    first_is None e = absurd (not_before c s zs (it.looked.none e k s v.place here))
    first_is (Some r) e = let w = it.looked.some r e in ⊎_elim
        (λ z. sym (subst (λ j. referred_type p (look_type p u j) ≡ Some r) z w.2) ∙ here)
        (λ b. ⊎_elim
        (λ b. absurd (no_settled c w.0 r zc w.3 ((referred_finds p (look_type p u w.0) r).0 w.2).2 (before n w.0 r (meets_at c n v.header it.first it.looked w.0 r w.1 w.2) b)))
        (λ b. absurd (not_before c s zs (w.4 k s v.place b here))) b) (it.looked.order w.0 k w.1 v.place)

    edge_in : ((e : ℕ) → DeclaredIn p e c → IsSettled p x u e) → IsEdgeIn edges c s
    edge_in around = (it.left zc).1 s (first_is it.first refl) (around_ranked c around)

  whole : (c s : ℕ) → IsType p c → rank c ≡ 0 → rank s ≡ 0 → HeaderEdge p x u c s → IsEdgeIn edges c s
  whole c s type zc zs (HeaderEdge.outwards d) = ((h.each c (type_below p c type)).outer type).left s d zc zs
  whole c s type zc zs (HeaderEdge.header {n = n} {k = k} around v before) = edge_in c n k s zc zs v before around

  pub header_edges : AreHeaderEdges p u rank edges
  header_edges = record { sound = λ c s e. let w = h.are.sound c s e in (w.0, edge_of c s w.2); whole = whole; rise = h.are.rise }
