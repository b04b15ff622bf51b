-- Under a confirmed table the first number on a round of the edges between types that are not settled is the first type on a cycle of headers.
use Rattle.std.proofs.Common.{◌≡◌, ◌⊎◌, ◌↔◌, refl, sym, ◌∙◌, subst, inl, inr, ⊎_elim, arith, ℕ, ◌<◌, ◌≤◌, List, length, Option, Some, None}
use Rattle.std.proofs.lemmas.Option.{none-some}
use Rattle.jr_tree.specs.Rows.{Rows}
use Rattle.jr_defs.specs.Referents.{Table, entries}
use Rattle.jr_defs.specs.Binding.{IsFirstOnCycle}
use Rattle.jr_defs.specs.Declarations.{IsType}
use Rattle.jr_defs.specs.Headers.{HeaderEdge, HeaderPath}
use Rattle.jr_defs.specs.Formed.{IsFormed}
use Rattle.jr_plain.specs.Search.{Reaches, Finds, IsFirst}
use Rattle.jr_plain.proofs.Bounds.{type_below}
use Rattle.jr_places.specs.declared.chains.Entry.{Entry}
use Rattle.jr_headers.specs.Growing.{header_table, header_part, cycle_of}
use Rattle.jr_headers.specs.Confirmed.{IsConfirmed}
use Rattle.jr_headers.proofs.Cyclic.{settled_on_none, first_on_cycle_finds}
use Rattle.jr_headers.proofs.HeaderRows.{headed}
use Rattle.jr_headers.proofs.Told.{cycle_of_is}
use Rattle.jr_headers.proofs.Confirmed.{zero_or, types_are, edges_are}
use Rattle.jr_bind.specs.Rounds.{IsEdgeIn, IsOnRound, IsFirstOnRound, AreEdges}
use Rattle.jr_bind.specs.Edges.{AreHeaderEdges}

-- what is found in two ways
same_found : (a b : Option ℕ) (P Q : ℕ → Type 0) → Finds a P → Finds b Q → ((x : ℕ) → P x ↔ Q x) → a ≡ b
same_found None None P Q f g h = refl
same_found None (Some y) P Q f g h = absurd (none-some y ((f y).1 ((h y).1 ((g y).0 refl))))
same_found (Some x) b P Q f g h = sym ((g x).1 ((h x).0 ((f x).0 refl)))

module _ (p : Rows) (formed : IsFormed p) (u : Table) (rank : ℕ → ℕ) (h : IsConfirmed p u rank) where
  abbrev t : Table
  t = entries (header_table p)

  abbrev part : Table
  part = entries (header_part p)

  -- ---- rounds are cycles

  module _ (edges : List Entry) (are : AreHeaderEdges p u rank edges) where
    edge_of : (a b : ℕ) → IsEdgeIn edges a b → HeaderEdge p t part a b
    edge_of a b e = (edges_are p formed u rank h a b).0 (are.sound a b e).1

    way_of : (a b : ℕ) → Reaches (IsEdgeIn edges) a b → HeaderPath p t part a b
    way_of a b (Reaches.direct e) = HeaderPath.edge (edge_of a b e)
    way_of a b (Reaches.further {r = r} e way) = HeaderPath.edges (edge_of a r e) (way_of r b way)

    type_of : (a b : ℕ) → Reaches (IsEdgeIn edges) a b → IsType p a
    type_of a b (Reaches.direct e) = (are.sound a b e).0
    type_of a b (Reaches.further {r = r} e way) = (are.sound a r e).0

    joined : (a b c : ℕ) → HeaderPath p t part a b → HeaderPath p t part b c → HeaderPath p t part a c
    joined a b c (HeaderPath.edge e) more = HeaderPath.edges e more
    joined a b c (HeaderPath.edges {r = r} e way) more = HeaderPath.edges e (joined r b c way more)

    target : (c s : ℕ) → HeaderEdge p t part c s → IsType p s
    target c _ (HeaderEdge.outwards d) = d.inside.type
    target c s (HeaderEdge.header around w before) = w.type

    -- what lies on a cycle has no rank
    off : (c : ℕ) → IsType p c → HeaderPath p t part c c → rank c ≡ 0
    off c k way = ⊎_elim (λ z. z) (λ lt. absurd (settled_on_none p t part c ((types_are p formed u rank h c k).0 lt) way)) (zero_or (rank c))

    edge_back : (a b : ℕ) → IsType p a → HeaderPath p t part a a → HeaderPath p t part b b → HeaderEdge p t part a b → IsEdgeIn edges a b
    edge_back a b k v w e = are.whole a b k (off a k v) (off b (target a b e) w) ((edges_are p formed u rank h a b).1 e)

    reach : (a b : ℕ) → IsType p a → HeaderPath p t part a b → HeaderPath p t part b a → Reaches (IsEdgeIn edges) a b
    reach a b k (HeaderPath.edge e) back = Reaches.direct (edge_back a b k (HeaderPath.edges e back) (joined b a b back (HeaderPath.edge e)) e)
    reach a b k (HeaderPath.edges {r = r} e way) back = let first : HeaderPath p t part b r = joined b a r back (HeaderPath.edge e) in
        Reaches.further (edge_back a r k (HeaderPath.edges e (joined r b a way back)) (joined r b r way first) e) (reach r b (target a r e) way first)

    rounds_tell : (c : ℕ) → IsOnRound edges c ↔ (IsType p c × HeaderPath p t part c c)
    rounds_tell c = (λ r. (type_of c c r, way_of c c r), λ w. reach c c w.0 w.1 w.1)

    first_tells : (c : ℕ) → IsFirstOnRound edges c ↔ IsFirst (λ c. IsType p c × HeaderPath p t part c c) (length p) c
    first_tells c = (
      λ r. let on = (rounds_tell c).0 r.0 in (type_below p c on.0, on, λ j w. r.1 j ((rounds_tell j).1 w)),
      λ w. ((rounds_tell c).1 w.1, λ y on. w.2 y ((rounds_tell y).0 on)),
    )

    pub edges_below : AreEdges edges (length p)
    edges_below = record { below = λ a b e. type_below p b (target a b (edge_of a b e)); rise = are.rise }

    pub cycle_is : (found : Option ℕ) → Finds found (IsFirstOnRound edges) → found ≡ cycle_of p
    cycle_is found f = same_found found (cycle_of p) (IsFirstOnRound edges) (IsFirst (λ c. IsType p c × HeaderPath p t part c c) (length p)) f (first_on_cycle_finds p t part (headed p formed)) first_tells

    -- what the search for a round finds
    pub first_is : (c : ℕ) → Finds (Some c) (IsFirstOnRound edges) → IsFirstOnCycle p c
    first_is c f = cycle_of_is p formed c (sym (cycle_is (Some c) f))
