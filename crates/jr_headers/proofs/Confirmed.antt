-- A table that is confirmed by lookup under itself is that of headers, whatever found it.
use Rattle.std.proofs.Common.{◌≡◌, ◌⊎◌, ◌↔◌, refl, sym, ◌∙◌, subst, inl, inr, ⊎_elim, arith, ℕ, zero, suc, ◌≤◌, ◌<◌, Option}
use Rattle.std.proofs.Math.Path.{fun_ext}
use Rattle.jr_tree.specs.Rows.{Rows}
use Rattle.jr_defs.specs.declared.referent.Referent.TheVariants.{Unbound, Declared}
use Rattle.jr_defs.specs.Referents.{Table, entries}
use Rattle.jr_defs.specs.Declarations.{IsType}
use Rattle.jr_defs.specs.Supertypes.{SuperAt}
use Rattle.jr_defs.specs.Constants.{HasConstantForm}
use Rattle.jr_defs.specs.Headers.{NamesHeader, IsIdentifierOf, NameMeets, Meets, IsSettled, HeaderEdge}
use Rattle.jr_defs.specs.Binding.{IsOfHeader, IsSettledPart, OfHeaders}
use Rattle.jr_defs.specs.Formed.{IsFormed}
use Rattle.jr_defs.proofs.HeadersAgree.{Agreed, agreed}
use Rattle.jr_plain.proofs.Tests.{decide}
use Rattle.jr_headers.specs.Rounds.{kept, name_or_same}
use Rattle.jr_headers.specs.Rounds as plain
use Rattle.jr_headers.specs.Growing.{header_table, header_part}
use Rattle.jr_headers.specs.Confirmed.{IsConfirmed}
use Rattle.jr_headers.proofs.Headed.{header_name_tells}
use Rattle.jr_headers.proofs.Settled.{met_type}
use Rattle.jr_headers.proofs.Names.{itself_identifier}
use Rattle.jr_headers.proofs.Given.{at_name}
use Rattle.jr_headers.proofs.AtHeader.{looked_here}
use Rattle.jr_headers.proofs.OneHeader.{LookedHere}
use Rattle.jr_headers.proofs.Pairs.{Looked, look_type, object_agreed, settled_same}
use Rattle.jr_headers.proofs.OneTable.{tables_same, parts_same}
use Rattle.jr_headers.proofs.Growing.{grown_headers}
use Rattle.jr_headers.proofs.Cut.{own_kept, settled_there, settled_back, cut_headers, edge_there, edge_back}

pub zero_or : (n : ℕ) → (n ≡ 0) ⊎ (0 < n)
zero_or zero = inl refl
zero_or (suc n) = inr (omega arith)

module _ (p : Rows) (formed : IsFormed p) (u : Table) (rank : ℕ → ℕ) (h : IsConfirmed p u rank) where
  abbrev x : Table
  x = name_or_same p u

  here : (c : ℕ) → LookedHere p c x u
  here c = looked_here p formed u h.ends c (h.inner c) (h.imports c)

  looked : Looked p x u
  looked = record { looked = λ c o k w. (here c).looked o w; others = (here 0).others; named = (here 0).named }

  -- ---- which types are settled

  settled_up : (n c : ℕ) → rank c ≤ n → IsType p c → 0 < rank c → IsSettled p x u c
  settled_up zero c le k lt = absurd (omega arith)
  settled_up (suc n) c le k lt = IsSettled.settled
      (λ e d. let w = h.behind c e k lt (inl d) in let less = w.1 in settled_up n e (omega arith) d.inside.type w.0)
      (λ s m. let w = h.behind c s k lt (inr m) in let less = w.1 in settled_up n s (omega arith) (met_type p x u c s m) w.0)

  pub settled : (c : ℕ) → IsType p c → 0 < rank c → IsSettled p x u c
  settled c k lt = settled_up (rank c) c (omega arith) k lt

  none_of : (s : ℕ) → rank s ≡ 0 → 0 < rank s → ⊥
  none_of s z lt = omega arith

  pub ranked : (c : ℕ) → IsType p c → IsSettled p x u c → 0 < rank c
  ranked c k (IsSettled.settled out met) = ⊎_elim (λ z. let w = h.stuck c k z in absurd (⊎_elim (λ d. none_of w.0 w.1 (ranked w.0 d.inside.type (out w.0 d)))
      (λ m. none_of w.0 w.1 (ranked w.0 (met_type p x u c w.0 m) (met w.0 m))) w.2)) (λ lt. lt) (zero_or (rank c))

  -- ---- names in headers lead upwards to an end

  named_met : (c n s : ℕ) (l : Option ℕ) → NamesHeader p c n → u n ≡ Declared s l → IsType p s × (0 < rank c) × Meets p x u c s
  named_met c n s l w e = ⊎_elim (λ z. let none : Unbound ≡ Declared s l = sym (h.left c n w z) ∙ e in absurd (cc)) (λ lt. found lt) (zero_or (rank c))
    where
      found : 0 < rank c → IsType p s × (0 < rank c) × Meets p x u c s
      found lt = let there : x n ≡ Declared s l = at_name p (plain.look_type p u n) (u n) c n w ∙ sym (h.names c n w lt) ∙ e in let i = itself_identifier p formed n in
          let t = look_type p formed u (HasConstantForm p u) x n s l (formed.header_name c n w) (looked.looked c n (formed.header c n w) (IsOfHeader.own w i)) there in
          (t, lt, record { row = n; header = w; meets = NameMeets.own i there t })

  above : (c : ℕ) → ((s : ℕ) → IsType p s → rank s < rank c → Agreed p u u s) → IsType p c → (n s : ℕ) → SuperAt p u c n s → Agreed p u u s
  above c lower k n s (SuperAt.class {level = l} w e) = let z = named_met c n s l (inl w) e in lower s z.0 (h.behind c s k z.1 (inr z.2)).1
  above c lower k _ s (SuperAt.implied w o) = object_agreed p formed u u s o
  above c lower k n s (SuperAt.interface {level = l} w e) = let z = named_met c n s l (inr w) e in lower s z.0 (h.behind c s k z.1 (inr z.2)).1

  grounded_up : (n c : ℕ) → rank c < n → IsType p c → Agreed p u u c
  grounded_up zero c lt k = absurd (omega arith)
  grounded_up (suc n) c lt k = agreed k (λ m w. refl) (above c (λ s t less. grounded_up n s (omega arith) t) k)

  grounded : (c : ℕ) → IsType p c → Agreed p u u c
  grounded c k = grounded_up (suc (rank c)) c (omega arith) k

  -- ---- the table of headers

  part : IsSettledPart p x u
  part = record {
    kept = λ o w. ⊎_elim (λ z. h.names z.0 o z.1 (ranked z.0 (formed.header z.0 o z.1) (w z.0 z.1)) ∙ sym (at_name p (plain.look_type p u o) (u o) z.0 o z.1))
        (λ no'. looked.others o (λ c z. no' (c, z))) (decide (header_name_tells p o));
    left_out = λ c o w no'. ⊎_elim (λ z. h.left c o w z) (λ lt. absurd (no' (settled c (formed.header c o w) lt))) (zero_or (rank c));
  }

  abbrev one : Table
  one = entries (header_table p)

  abbrev its_part : Table
  its_part = entries (header_part p)

  abbrev one_table : OfHeaders p one
  one_table = grown_headers p formed

  abbrev of_headers : OfHeaders p (kept p x u)
  of_headers = cut_headers p formed x u looked part grounded

  pub table_is : (o : ℕ) → kept p x u o ≡ one o
  table_is o = tables_same p formed (kept p x u) one of_headers one_table o

  pub part_is : (o : ℕ) → kept p u u o ≡ its_part o
  part_is o = parts_same p formed (kept p x u) one of_headers one_table o

  pub identifiers_are : (c n m : ℕ) → NamesHeader p c n → IsIdentifierOf p n m → x m ≡ one m
  identifiers_are c n m w i = sym (own_kept p formed x u looked part grounded x c n m w i) ∙ table_is m

  pub types_are : (c : ℕ) → IsType p c → (0 < rank c) ↔ IsSettled p one its_part c
  types_are c k = (
    λ lt. settled_same p formed (kept p x u) one of_headers one_table c k (settled_there p formed x u looked part grounded c (settled c k lt)),
    λ s. ranked c k (settled_back p formed x u looked part grounded c (settled_same p formed one (kept p x u) one_table of_headers c k s)),
  )

  pub edges_are : (c s : ℕ) → HeaderEdge p x u c s ↔ HeaderEdge p one its_part c s
  edges_are c s = (
    λ w. subst (λ t. HeaderEdge p t its_part c s) (fun_ext table_is) (subst (λ y. HeaderEdge p (kept p x u) y c s) (fun_ext part_is) (edge_there p formed x u looked part grounded c s w)),
    λ w. edge_back p formed x u looked part grounded c s (subst (λ y. HeaderEdge p (kept p x u) y c s) (sym (fun_ext part_is)) (subst (λ t. HeaderEdge p t its_part c s) (sym (fun_ext table_is)) w)),
  )
