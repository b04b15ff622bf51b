-- The answer of a name or field behind a dot.
use Rattle.std.proofs.Common.{◌≡◌, refl, sym, ◌∙◌, ap, subst, arith, ℕ, zero, suc, ◌+◌, ◌<◌, Bool, true, false, cond, List, [], ◌∷◌, length, codes, Option, Some, None, nat_lt, Decides}
use Rattle.std.specs.Prelude.{◌&&◌, bytes_eq}
use Rattle.std.proofs.lemmas.Bool.{false≢true}
use Rattle.std.proofs.lemmas.Bool.Decides.{Decides-ltb}
use Rattle.std.proofs.lemmas.Option.{none-some, same_Some}
use Rattle.std.proofs.lemmas.Slice.Eq.{bytes_eq-Decides}
use Rattle.jr_base.specs.declared.text.Text.{Text}
use Rattle.jr_tree.specs.declared.label.NameKind.{NameKind}
use Rattle.jr_tree.specs.declared.label.NameKind.TheVariants as names
use Rattle.jr_tree.specs.declared.label.Sought.{Sought}
use Rattle.jr_tree.specs.declared.label.Sought.TheVariants as sought
use Rattle.jr_tree.specs.Rows.{Rows, parent}
use Rattle.jr_defs.specs.declared.referent.RowType.{RowType}
use Rattle.jr_defs.specs.declared.referent.Referent.{Referent}
use Rattle.jr_defs.specs.declared.referent.Referent.TheVariants.{Unbound, ArrayLength, Package}
use Rattle.jr_defs.specs.declared.referent.Space.TheVariants as space
use Rattle.jr_defs.specs.Referents.{Table, IsAnswer}
use Rattle.jr_defs.specs.Types.{array}
use Rattle.jr_defs.specs.Typing.{TypeOf}
use Rattle.jr_defs.specs.Lookup.{MemberBefore, TypeBefore, QualifiedCandidate, Candidate, ArrayBefore, MayBePackage, MayBeLength, IsPackageName, Otherwise}
use Rattle.jr_plain.specs.Search.{has, Lists, Finds}
use Rattle.jr_plain.specs.Lists.{at_level}
use Rattle.jr_plain.specs.Lookup.{may_be_package}
use Rattle.jr_plain.specs.Referents.{answer_of}
use Rattle.jr_plain.proofs.Tests.{itself, both, like}
use Rattle.jr_plain.proofs.Listed.{at_level_has}
use Rattle.jr_plain.proofs.Answered.{answer_is}
use Rattle.jr_places.specs.declared.places.Places.{Places}
use Rattle.jr_members.proofs.Each.{front_has}
use Rattle.jr_lookup.specs.declared.qualified.Left.{Left}
use Rattle.jr_lookup.specs.Answers.{AreAllThrough}
use Rattle.jr_lookup.specs.Behind.{IsLeftAt, IsLeftOf, value_of, HasValue, NeedsValue, length_of, length_or_unbound, otherwise_by}
use Rattle.jr_lookup.proofs.Sighting.{lists_by, lists_none}
use Rattle.jr_lookup.proofs.Dotted.{package_no_type}

-- the answer of candidates that are all found, where it is known what there is without one
pub answer_else : (C : ℕ → Option ℕ → Type 0) (Q : Referent → Type 0) (found : List ℕ) (level : Option ℕ) (otherwise a : Referent) → AreAllThrough C found level → Q otherwise
    → a ≡ answer_of (at_level level found) otherwise → IsAnswer C Q a
answer_else C Q found level otherwise a are q is = subst (λ a. IsAnswer C Q a) (sym is) (answer_is C Q (at_level level found)
    (λ d l. like (at_level_has {P = λ k. has found k ≡ true} level found (λ k. itself (has found k)) (d, l)) (λ h. subst (C d) (sym h.1) (are.sound d h.0)) (λ c. are.whole d l c))
    otherwise (λ never. q))

no_item : (xs : List ℕ) → length xs ≡ 0 → (d : ℕ) → has xs d ≡ true → ⊥
no_item [] e d h = false≢true h
no_item (y ∷ ys) e d h = omega arith

module _ (p : Rows) (t : Table) (K : ℕ → Type 0) (x : Text) (o : ℕ) where
  abbrev pub Behind : NameKind → ℕ → Type 0
  Behind k d = QualifiedCandidate p t K x o k d

  -- ---- candidates

  field_into : {d : ℕ} → Behind names.Variable d → MemberBefore p t K space.Variable x o d
  field_into (QualifiedCandidate.variable h) = h

  type_into : {d : ℕ} → Behind names.Type d → TypeBefore p t x o d
  type_into (QualifiedCandidate.type h) = h

  package_into : {d : ℕ} → Behind names.PackageOrType d → TypeBefore p t x o d
  package_into (QualifiedCandidate.package_or_type h) = h

  pub behind_fields : (all : List ℕ) → Lists all (λ d. MemberBefore p t K space.Variable x o d) → Lists all (Behind names.Variable)
  behind_fields all h = lists_by all all refl h (λ d k. QualifiedCandidate.variable k) (λ d k. field_into k)

  pub behind_types : (all : List ℕ) → Lists all (λ d. TypeBefore p t x o d) → Lists all (Behind names.Type)
  behind_types all h = lists_by all all refl h (λ d k. QualifiedCandidate.type k) (λ d k. type_into k)

  pub behind_packages : (all : List ℕ) → Lists all (λ d. TypeBefore p t x o d) → Lists all (Behind names.PackageOrType)
  behind_packages all h = lists_by all all refl h (λ d k. QualifiedCandidate.package_or_type k) (λ d k. package_into k)

  pub behind_none : (all : List ℕ) → all ≡ [] → Lists all (Behind names.Package)
  behind_none all is = lists_none all is (λ d k. elim k [ ])

  pub behind_first : (all : List ℕ) → Lists all (λ d. MemberBefore p t K space.Variable x o d) → (length all ≡ 0 → ⊥) → Lists all (Behind names.Ambiguous)
  behind_first [] h more = absurd (more refl)
  behind_first (y ∷ ys) h more = lists_by (y ∷ ys) (y ∷ ys) refl h (λ d k. QualifiedCandidate.first_field k) (λ d k. by k)
    where
      by : {d : ℕ} → Behind names.Ambiguous d → MemberBefore p t K space.Variable x o d
      by (QualifiedCandidate.first_field k) = k
      by (QualifiedCandidate.then_type none k) = absurd (none y ((h y).0 (front_has y ys)))

  pub behind_then : (fields all : List ℕ) → Lists fields (λ d. MemberBefore p t K space.Variable x o d) → length fields ≡ 0 → Lists all (λ d. TypeBefore p t x o d) → Lists all (Behind names.Ambiguous)
  behind_then fields all first empty h = lists_by all all refl h (λ d k. QualifiedCandidate.then_type (λ e m. no_item fields empty e ((first e).1 m)) k) (λ d k. by k)
    where
      by : {d : ℕ} → Behind names.Ambiguous d → TypeBefore p t x o d
      by {d = d} (QualifiedCandidate.first_field k) = absurd (no_item fields empty d ((first d).1 k))
      by (QualifiedCandidate.then_type none k) = k

  -- by the kind of the name
  pub behind_by : (all : List ℕ) (k j : NameKind) → j ≡ k → Lists all (Behind k) → Lists all (Behind j)
  behind_by all k j e h = subst (λ k. Lists all (Behind k)) (sym e) h

  abbrev pub Sought_at : Sought → ℕ → Option ℕ → Type 0
  Sought_at s d l = Candidate p t K o x s d l

  qualified_into : {k : NameKind} {d : ℕ} {l : Option ℕ} → Candidate p t K o x (sought.Qualified k) d l → Behind k d × (l ≡ None)
  qualified_into (Candidate.qualified h) = (h, refl)

  field_of : {d : ℕ} {l : Option ℕ} → Candidate p t K o x sought.FieldOf d l → MemberBefore p t K space.Variable x o d × (l ≡ None)
  field_of (Candidate.field h) = (h, refl)

  pub all_behind : (k : NameKind) (all : List ℕ) (level : Option ℕ) → Lists all (Behind k) → level ≡ None → AreAllThrough (Sought_at (sought.Qualified k)) all level
  all_behind k all level h is = record {
    sound = λ d e. subst (λ l. Candidate p t K o x (sought.Qualified k) d l) (sym is) (Candidate.qualified ((h d).0 e));
    whole = λ d l c. let i = qualified_into c in ((h d).1 i.0, i.1 ∙ sym is);
  }

  pub all_fields : (all : List ℕ) (level : Option ℕ) → Lists all (λ d. MemberBefore p t K space.Variable x o d) → level ≡ None → AreAllThrough (Sought_at sought.FieldOf) all level
  all_fields all level h is = record {
    sound = λ d e. subst (λ l. Candidate p t K o x sought.FieldOf d l) (sym is) (Candidate.field ((h d).0 e));
    whole = λ d l c. let i = field_of c in ((h d).1 i.0, i.1 ∙ sym is);
  }

  -- ---- where there is none

  abbrev Else : Sought → Referent → Type 0
  Else s a = Otherwise p t K o x s a

  unbound_else : (s : Sought) → (IsPackageName p t o s → ⊥) → (MayBeLength s → ArrayBefore p t K o → ⊥) → Else s Unbound
  unbound_else s no_package no_array = Otherwise.unbound no_package (λ h. no_array h.allowed h.array)

  module _ (places : Places) where
    -- an expression of a type
    length_else : (s : Sought) → MayBeLength s → (IsPackageName p t o s → ⊥) → parent p (o + 1) ≡ o → (a : RowType) → Finds (Some a) (λ b. TypeOf p t K (o + 1) b)
        → (b : Bool) → Decides b ((0 < a.dims) × (x ≡ codes "length")) → Else s (cond b ArrayLength Unbound)
    length_else s may no_package up a typed true d = Otherwise.length no_package (record { allowed = may; array = by a.dims refl; named = (d.0 refl).1 })
      where
        by : (dims : ℕ) → a.dims ≡ dims → ArrayBefore p t K o
        by zero e = let more = (d.0 refl).0 in absurd (omega (arith, e, more))
        by (suc k) e = record { first = up; held = a.element; dims = k; type = subst (λ n. TypeOf p t K (o + 1) (array a.element n)) e ((typed a).0 refl) }
    length_else s may no_package up a typed false d = Otherwise.unbound no_package
        (λ h. let same = ap (λ b. b.dims) (same_Some a (array h.array.held (suc h.array.dims)) ((typed (array h.array.held (suc h.array.dims))).1 h.array.type)) in false≢true (d.1 (omega (arith, same), h.named)))

    no_array : {l : Left} → HasValue p t K o l → value_of l ≡ None → ArrayBefore p t K o → ⊥
    no_array v e h = none-some (array h.held (suc h.dims)) (sym e ∙ (v.typed h.first (array h.held (suc h.dims))).1 h.type)

    pub length_holds : (s : Sought) → MayBeLength s → (IsPackageName p t o s → ⊥) → {l : Left} → IsLeftOf p t places o l → HasValue p t K o l → Else s (length_of l x)
    length_holds s may no_package (IsLeftOf.none apart) v = unbound_else s no_package (λ m h. apart h.first)
    length_holds s may no_package (IsLeftOf.child up (IsLeftAt.of_package e f)) v = unbound_else s no_package (λ m. no_array v refl)
    length_holds s may no_package (IsLeftOf.child up (IsLeftAt.of_type e)) v = unbound_else s no_package (λ m. no_array v refl)
    length_holds s may no_package (IsLeftOf.child up (IsLeftAt.value {a = a} out e)) v = length_else s may no_package up a (v.typed up) (nat_lt 0 a.dims && bytes_eq x (codes "length"))
        (both (Decides-ltb 0 a.dims) (bytes_eq-Decides x (codes "length")))
    length_holds s may no_package (IsLeftOf.child up (IsLeftAt.nothing out e)) v = unbound_else s no_package (λ m. no_array v refl)

    pub field_else : {l : Left} → IsLeftOf p t places o l → HasValue p t K o l → Else sought.FieldOf (length_of l x)
    field_else h v = length_holds sought.FieldOf tt (λ k. elim k [ ]) h v

    package_of : {k : NameKind} → IsPackageName p t o (sought.Qualified k) → MayBePackage k × (parent p (o + 1) ≡ o) × (t (o + 1) ≡ Package)
    package_of (IsPackageName.qualified m h) = (m, h.first, h.refers)

    may_tells : (k : NameKind) → Decides (may_be_package k) (MayBePackage k)
    may_tells names.PackageOrType = (λ h. tt, λ h. refl)
    may_tells names.Ambiguous = (λ h. tt, λ h. refl)
    may_tells names.Variable = (λ h. absurd (false≢true h), λ h. absurd h)
    may_tells names.Type = (λ h. absurd (false≢true h), λ h. absurd h)
    may_tells names.Package = (λ h. absurd (false≢true h), λ h. absurd h)

    needs : (k : NameKind) → MayBeLength (sought.Qualified k) → NeedsValue k
    needs names.Variable m = tt
    needs names.Ambiguous m = tt
    needs names.Type m = absurd m
    needs names.PackageOrType m = absurd m
    needs names.Package m = absurd m

    -- a package before the dot
    package_else : (k : NameKind) → parent p (o + 1) ≡ o → t (o + 1) ≡ Package → (MayBeLength (sought.Qualified k) → ArrayBefore p t K o → ⊥) → (b : Bool) → Decides b (MayBePackage k) → Else (sought.Qualified k) (cond b Package Unbound)
    package_else k up e no_value true d = Otherwise.package_name (IsPackageName.qualified (d.0 refl) (record { first = up; refers = e; spells = refl }))
    package_else k up e no_value false d = unbound_else (sought.Qualified k) (λ h. false≢true (d.1 (package_of h).0)) no_value

    -- none before it
    rest_else : (k : NameKind) → (parent p (o + 1) ≡ o → t (o + 1) ≡ Package → ⊥) → {l : Left} → IsLeftOf p t places o l → (NeedsValue k → HasValue p t K o l) → Else (sought.Qualified k) (length_or_unbound l k x)
    rest_else names.Variable no_package h v = length_holds (sought.Qualified names.Variable) tt (λ k. let i = package_of k in no_package i.1 i.2) h (v tt)
    rest_else names.Ambiguous no_package h v = length_holds (sought.Qualified names.Ambiguous) tt (λ k. let i = package_of k in no_package i.1 i.2) h (v tt)
    rest_else names.Type no_package h v = unbound_else (sought.Qualified names.Type) (λ k. let i = package_of k in no_package i.1 i.2) (λ m k. m)
    rest_else names.PackageOrType no_package h v = unbound_else (sought.Qualified names.PackageOrType) (λ k. let i = package_of k in no_package i.1 i.2) (λ m k. m)
    rest_else names.Package no_package h v = unbound_else (sought.Qualified names.Package) (λ k. let i = package_of k in no_package i.1 i.2) (λ m k. m)

    pub behind_else : (k : NameKind) → {l : Left} → IsLeftOf p t places o l → (NeedsValue k → HasValue p t K o l) → Else (sought.Qualified k) (otherwise_by l k x)
    behind_else k (IsLeftOf.none apart) v = rest_else k (λ up e. apart up) (IsLeftOf.none apart) v
    behind_else k (IsLeftOf.child up (IsLeftAt.of_package e f)) v = package_else k up e (λ m. no_array (v (needs k m)) refl) (may_be_package k) (may_tells k)
    behind_else k (IsLeftOf.child up (IsLeftAt.of_type e)) v = rest_else k (λ u r. package_no_type p t o r e) (IsLeftOf.child up (IsLeftAt.of_type e)) v
    behind_else k (IsLeftOf.child up (IsLeftAt.value out e)) v = rest_else k (λ u r. out r) (IsLeftOf.child up (IsLeftAt.value out e)) v
    behind_else k (IsLeftOf.child up (IsLeftAt.nothing out e)) v = rest_else k (λ u r. out r) (IsLeftOf.child up (IsLeftAt.nothing out e)) v
