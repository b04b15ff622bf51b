-- The law of one binding: two bindings agree on headers, and so they are one.
use Rattle.std.proofs.Common.{◌≡◌, ◌⊎◌, ℕ, suc, zero, ◌+◌, ◌<◌, ◌≤◌, refl, sym, ◌∙◌, ap, subst, inl, inr, arith, [], length}
use Rattle.std.proofs.lemmas.Bool.{cases_lt}
use Rattle.std.proofs.lemmas.List.{get_or_past}
use Rattle.std.specs.Prelude.{Option, Some, None}
use Rattle.jr_tree.specs.declared.label.Label.TheVariants as is
use Rattle.jr_tree.specs.declared.label.ImportKind.{ImportKind}
use Rattle.jr_tree.specs.declared.label.NameKind.{NameKind}
use Rattle.jr_tree.specs.declared.label.NameKind.TheVariants as kind
use Rattle.jr_tree.specs.declared.label.Sought.{Sought}
use Rattle.jr_tree.specs.declared.label.Sought.TheVariants as sought
use Rattle.jr_tree.specs.Tree.{IsTree}
use Rattle.jr_tree.specs.Rows.{Rows, label, name, parent, end, sought_at}
use Rattle.jr_defs.specs.declared.referent.Referent.TheVariants.{Declared}
use Rattle.jr_defs.specs.Referents.{Table}
use Rattle.jr_defs.specs.Declarations.{IsType, IsObject}
use Rattle.jr_defs.specs.Enclosing.{InBody, DeclaredIn}
use Rattle.jr_defs.specs.Types.{NamesType}
use Rattle.jr_defs.specs.Supertypes.{SuperAt}
use Rattle.jr_defs.specs.Constants.{HasConstantForm}
use Rattle.jr_defs.specs.Headers.{NamesHeader, IsIdentifierOf, IsFirstOf, IsLookedForIn, NameMeets, Meets, IsSettled}
use Rattle.jr_defs.specs.Binding.{IsBound, IsBinding}
use Rattle.jr_defs.specs.Laws.{SameHeaders}
use Rattle.jr_defs.specs.Formed.{SeeksType, NamesTypeFirst, IsFormed}
use Rattle.jr_defs.specs.Correspondence.{IsScoped}
use Rattle.jr_defs.proofs.Itself.{same, SameImports, SameFirst, type_search_in}
use Rattle.jr_defs.proofs.TypesAgree.{bound_same, no_imports}
use Rattle.jr_defs.proofs.OneBinding.{all_agree}
use Rattle.jr_defs.proofs.HeadersAgree.{Agreed, agreed, agreed_names, carries_there, carries_back, ImportSame, type_role, target_declares, first_agrees}

module _ (p : Rows) (tree : IsTree p) where
  -- a row that is the first child of another stands inside all that holds the other
  pub first_inside : (n m : ℕ) → n ≤ m → m < end p n → parent p (m + 1) ≡ m → m + 1 < end p n
  first_inside n m le lt e = elim (cases_lt (m + 1) (length p)) [
    | inl l ↦ (let z = tree.held (m + 1) l (omega arith) in let w = subst (λ k. m + 1 < end p k) e z in let y = ends n m le lt in omega arith)
    | inr g ↦ (let z = ap (λ r. r.parent) (get_or_past p (m + 1) (record { label = is.Skip; name = []; parent = m + 1; end = m + 1 + 1; previous = m + 1 }) g) in
        let y : m + 1 ≡ m = sym z ∙ e in absurd (omega arith))
  ]
    where
      apart_or : (n m : ℕ) → n ≤ m → (n ≡ m) ⊎ (n < m)
      apart_or n m le = grind arith

      ends : (n m : ℕ) → n ≤ m → m < end p n → end p m ≤ end p n
      ends n m le lt = elim (apart_or n m le) [
        | inl e ↦ (let z = ap (end p) e in omega arith)
        | inr l ↦ tree.apart n m l lt
      ]

  pub next_identifier : (n m : ℕ) → IsIdentifierOf p n m → parent p (m + 1) ≡ m → IsIdentifierOf p n (m + 1)
  next_identifier n m h e = record { from = let z = h.from in omega arith; before = first_inside n m h.from h.before e }

module _ (p : Rows) (t u : Table) (formed : IsFormed p) (a : IsBound p t) (b : IsBound p u) where
  -- the identifiers of a name, from the last row back
  module _ (n : ℕ) (seeks : SeeksType (sought_at p n)) (around : (m e : ℕ) → IsIdentifierOf p n m → InBody p e m → Agreed p t u e)
      (met : (m s : ℕ) (l : Option ℕ) → IsIdentifierOf p n m → t m ≡ Declared s l → IsType p s → Agreed p t u s)
      (simple : (m : ℕ) (k : NameKind) → IsIdentifierOf p n m → sought_at p m ≡ sought.Simple k → SeeksType (sought.Simple k) → t m ≡ u m) where
    identifier_agrees : (m : ℕ) (s : Sought) → IsIdentifierOf p n m → sought_at p m ≡ s → SeeksType s → SameFirst p t u m → t m ≡ u m
    identifier_agrees m (sought.Simple k) i e h first = simple m k i e h
    identifier_agrees m (sought.Qualified k) i e h first = bound_same p t u (Agreed p t u) m (a m) (b m)
        (type_search_in p t u (HasConstantForm p t) (HasConstantForm p u) (Agreed p t u) m (subst SeeksType (sym e) h) (carries_there p t u) (λ c w. around m c i w)
        (λ sc. absurd (subst IsScoped e sc)) first (λ c w. met (m + 1) c w.level (next_identifier p formed.tree n m i w.first) w.refers w.type))
        (type_search_in p u t (HasConstantForm p u) (HasConstantForm p t) (Agreed p t u) m (subst SeeksType (sym e) h) (carries_back p t u) (λ c w. around m c i w)
        (λ sc. absurd (subst IsScoped e sc)) (λ e. sym (first e)) (λ c w. met (m + 1) c w.level (next_identifier p formed.tree n m i w.first) (first w.first ∙ w.refers) w.type))
    identifier_agrees m _ i e h first = absurd h

    identifiers_from : (j o : ℕ) → end p n ≤ o + j → (m : ℕ) → o ≤ m → IsIdentifierOf p n m → t m ≡ u m
    identifiers_from zero o le m after i = let z = i.before in absurd (omega arith)
    identifiers_from (suc j) o le m after i = identifier_agrees m (sought_at p m) i refl (formed.identifier n m seeks i)
        (λ e. identifiers_from j (o + 1) (omega arith) (m + 1) (omega arith) (next_identifier p formed.tree n m i e))

    pub identifiers_agree : (m : ℕ) → IsIdentifierOf p n m → t m ≡ u m
    identifiers_agree m i = identifiers_from (end p n) 0 (omega arith) m (omega arith) i

  -- the name of an import, where what it meets is agreed on
  module _ (i : ℕ) (form : ImportKind) (is_import : label p i ≡ is.Import form)
      (met : (m s : ℕ) (l : Option ℕ) → IsIdentifierOf p (i + 1) m → t m ≡ Declared s l → IsType p s → Agreed p t u s) where
    import_seeks : SeeksType (sought_at p (i + 1))
    import_seeks = formed.first_name i (subst NamesTypeFirst (sym is_import) NamesTypeFirst.import)

    within_import : (m : ℕ) → IsIdentifierOf p (i + 1) m → m < end p i
    within_import m h = let z = formed.import_name i form is_import in let y = formed.tree.apart i (i + 1) (omega arith) z in let w = h.before in omega arith

    behind_import : (m : ℕ) → IsIdentifierOf p (i + 1) m → i < m
    behind_import m h = let z = h.from in omega arith

    nothing_around : (m e : ℕ) → IsIdentifierOf p (i + 1) m → InBody p e m → Agreed p t u e
    nothing_around m e h w = absurd (formed.import_outside i m e form is_import (behind_import m h) (within_import m h) w)

    no_first : (m : ℕ) (k : NameKind) → sought_at p m ≡ sought.Simple k → SameFirst p t u m
    no_first m k e w = absurd (formed.simple_leaf m k e w)

    import_simple : (m : ℕ) (k : NameKind) → IsIdentifierOf p (i + 1) m → sought_at p m ≡ sought.Simple k → SeeksType (sought.Simple k) → t m ≡ u m
    import_simple m k h e seeks = bound_same p t u (Agreed p t u) m (a m) (b m)
        (type_search_in p t u (HasConstantForm p t) (HasConstantForm p u) (Agreed p t u) m (subst SeeksType (sym e) seeks) (carries_there p t u) (λ c w. nothing_around m c h w)
        (λ sc. no_imports p formed t u i m form is_import (behind_import m h) (within_import m h)) (no_first m k e)
        (λ c w. absurd (formed.simple_leaf m k e w.first)))
        (type_search_in p u t (HasConstantForm p u) (HasConstantForm p t) (Agreed p t u) m (subst SeeksType (sym e) seeks) (carries_back p t u) (λ c w. nothing_around m c h w)
        (λ sc. no_imports p formed u t i m form is_import (behind_import m h) (within_import m h)) (λ w. sym (no_first m k e w))
        (λ c w. absurd (formed.simple_leaf m k e w.first)))

    import_agrees : ImportSame p t u i
    import_agrees = record {
      at = identifiers_agree (i + 1) import_seeks nothing_around met import_simple (i + 1) (record { from = omega arith; before = formed.tree.nested (i + 1) });
      known = λ c w. met (i + 1) c w.level (record { from = omega arith; before = formed.tree.nested (i + 1) }) w.refers w.type;
    }

  -- the header of a type, where what it meets is agreed on, and all round it
  header_agrees : (c n : ℕ) → NamesHeader p c n → ((e : ℕ) → InBody p e c → Agreed p t u e) → ((s : ℕ) → IsType p s → Meets p t t c s → Agreed p t u s) → t n ≡ u n
  header_agrees c n header around met = identifiers_agree n (formed.header_name c n header) (λ m e i w. outside m e i w)
      (λ m s l i e k. met s k (record { row = n; header = header; meets = NameMeets.own i e k }))
      (λ m k i e seeks. first_agrees p t u formed a b m (λ e' w. outside m e' i w)
      (λ j looked. import_agrees j looked.form looked.import.import
      (λ m' s l i' e' k'. met s k' (record { row = n; header = header; meets = NameMeets.import (record { last = formed.first_last n m k (formed.header_name c n header) i e; kind = k; simple = e }) looked i' e' k' })))
      k e seeks)
      n (record { from = omega arith; before = formed.tree.nested n })
    where
      outside : (m e : ℕ) → IsIdentifierOf p n m → InBody p e m → Agreed p t u e
      outside m e i w = around e (formed.header_place c n m e header i w)

  object_agreed : (c : ℕ) → IsObject p c → Agreed p t u c
  object_agreed c o = agreed o.type (λ n h. absurd (formed.object_bare c n o h)) (λ n s w. none_above n s w)
    where
      none_above : (n s : ℕ) → SuperAt p t c n s → Agreed p t u s
      none_above n s (SuperAt.class h e) = absurd (formed.object_bare c n o (inl h))
      none_above _ s (SuperAt.implied h e) = absurd (h.below o)
      none_above n s (SuperAt.interface h e) = absurd (formed.object_bare c n o (inr h))

  meets_type : (c s : ℕ) → Meets p t t c s → IsType p s
  meets_type c s h = by_name h.row h.meets
    where
      by_name : (n : ℕ) → NameMeets p t t n s → IsType p s
      by_name n (NameMeets.own i e k) = k
      by_name n (NameMeets.import f l i e k) = k

  header_type : (c n s : ℕ) (l : Option ℕ) → NamesHeader p c n → t n ≡ Declared s l → IsType p s
  header_type c n s l h e = type_role p (name p n) s (target_declares p t a n s l (formed.header_name c n h) e)

  -- c is agreed on, and so are the types whose bodies hold it
  record Done (c : ℕ) : Type 0 where
    itself : Agreed p t u c
    around : (e : ℕ) → InBody p e c → Agreed p t u e

  done_of : (c : ℕ) → IsType p c → ((e : ℕ) → DeclaredIn p e c → Done e) → ((s : ℕ) → IsType p s → Meets p t t c s → Agreed p t u s) → Done c
  done_of c k out met = record { around = outer; itself = agreed k names above }
    where
      outer : (e : ℕ) → InBody p e c → Agreed p t u e
      outer e w = by_chain (formed.body_chain c e k w)
        where
          by_chain : DeclaredIn p e c ⊎ ((f : ℕ) × DeclaredIn p f c × InBody p e f) → Agreed p t u e
          by_chain (inl d) = (out e d).itself
          by_chain (inr d) = let f = d.0 in let i : DeclaredIn p f c = d.1 in (out f i).around e d.2

      names : (n : ℕ) → NamesHeader p c n → t n ≡ u n
      names n h = header_agrees c n h outer met

      own_meets : (n s : ℕ) (l : Option ℕ) → NamesHeader p c n → t n ≡ Declared s l → Agreed p t u s
      own_meets n s l h e = let k = header_type c n s l h e in
          met s k (record { row = n; header = h; meets = NameMeets.own (record { from = omega arith; before = formed.tree.nested n }) e k })

      above : (n s : ℕ) → SuperAt p t c n s → Agreed p t u s
      above n s (SuperAt.class {level = l} h e) = own_meets n s l (inl h) e
      above _ s (SuperAt.implied h e) = object_agreed s e
      above n s (SuperAt.interface {level = l} h e) = own_meets n s l (inr h) e

  settle : (c : ℕ) → IsType p c → IsSettled p t t c → Done c
  settle c k (IsSettled.settled out met) = done_of c k (λ e d. settle e d.inside.type (out e d)) (λ s j w. (settle s j (met s w)).itself)

  pub headers_agree : ((c : ℕ) → IsType p c → IsSettled p t t c) → SameHeaders p t u
  headers_agree all = record {
    at = λ c n h. let k = formed.header c n h in agreed_names p t u c n (settle c k (all c k)).itself h;
    types = header_type;
  }

pub one_binding : (p : Rows) (t u : Table) → IsFormed p → IsBinding p t → IsBinding p u → (o : ℕ) → t o ≡ u o
one_binding p t u formed x y = all_agree p t u formed x.bound y.bound (headers_agree p t u formed x.bound y.bound x.settled)
