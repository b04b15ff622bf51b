-- A name is read from its last identifier back, and the types round the one that it names from inside out.
use Rattle.std.proofs.Common.{◌≡◌, ◌⊎◌, refl, sym, ◌∙◌, ap, ap₂, subst, inl, inr, ⊎_elim, arith, ℕ, zero, suc, ◌+◌, ◌-◌, ◌<◌, ◌≤◌, Bool, true, false, List, [], ◌∷◌, ◌++◌, length, length-append, Some, None, Decides}
use Rattle.std.proofs.lemmas.Bool.{false≢true, cases_eq}
use Rattle.std.proofs.lemmas.Option.{none-some, same_Some}
use Rattle.jr_base.specs.declared.text.Text.{Text}
use Rattle.jr_tree.specs.declared.label.Label.{Label}
use Rattle.jr_tree.specs.declared.label.Label.TheVariants as is
use Rattle.jr_tree.specs.declared.label.NameKind.{NameKind}
use Rattle.jr_tree.specs.declared.label.NameKind.TheVariants as kind
use Rattle.jr_tree.specs.declared.label.NamePlace.TheVariants as place
use Rattle.jr_tree.specs.Exprs.{left_kind}
use Rattle.jr_tree.specs.Rows.{Rows, label, name, parent, end}
use Rattle.jr_tree.specs.Below.{IsQualifierOf, IsTypeName}
use Rattle.jr_tree.specs.Local.{StartsAt, IsLocal}
use Rattle.jr_defs.specs.Declarations.{IsType}
use Rattle.jr_defs.specs.Enclosing.{DeclaredIn, IsTopLevel, holder}
use Rattle.jr_defs.specs.Packages.{identifiers, spelled, InPackage, TypeOfPackage}
use Rattle.jr_defs.specs.Rules.{CanonicalName}
use Rattle.jr_plain.specs.Enclosing.{declaring_type, is_unit}
use Rattle.jr_plain.proofs.Bounds.{bounded}
use Rattle.jr_plain.proofs.Enclosed.{declaring_finds}
use Rattle.jr_name_faults.specs.Canonical.{IsTopOf, parts_to, IsNameLabel, IsReadTo}

-- ---- the identifiers of a name

identifiers_are : (p : Rows) (n k : ℕ) → identifiers p n k ≡ parts_to p n (suc k)
identifiers_are p n zero = refl
identifiers_are p n (suc k) = ap (λ xs. xs ++ name p n ∷ []) (identifiers_are p (n + 1) k)

spelled_is : (p : Rows) (n stop : ℕ) → n < stop → end p n ≡ stop → spelled p n ≡ parts_to p n (stop - n)
spelled_is p n stop lt e = let same : suc (end p n - (n + 1)) ≡ stop - n = omega arith in identifiers_are p n (end p n - (n + 1)) ∙ ap (parts_to p n) same

last_same : (xs ys : List Text) (x y : Text) → xs ++ x ∷ [] ≡ ys ++ y ∷ [] → (xs ≡ ys) × (x ≡ y)
last_same [] [] x y e = (refl, ap (λ l. first x l) e)
  where
    first : Text → List Text → Text
    first z [] = z
    first z (a ∷ l) = a
last_same [] (b ∷ ys) x y e = let size = ap length e in let sum = length-append ys (y ∷ []) in absurd (omega arith)
last_same (a ∷ xs) [] x y e = let size = ap length e in let sum = length-append xs (x ∷ []) in absurd (omega arith)
last_same (a ∷ xs) (b ∷ ys) x y e = let more = last_same xs ys x y (ap rest e) in (ap₂ (λ z zs. z ∷ zs) (ap (λ l. first a l) e) more.0, more.1)
  where
    first : Text → List Text → Text
    first z [] = z
    first z (c ∷ l) = c

    rest : List Text → List Text
    rest [] = []
    rest (c ∷ l) = l

-- ---- canonical names

not_unit : (l : Label) → l ≡ is.Body → l ≡ is.Unit → ⊥
not_unit l body unit = false≢true (sym (ap is_unit body) ∙ ap is_unit unit)

module _ (p : Rows) where
  -- a type that its unit declares is no member
  no_member : (c d : ℕ) → IsTopLevel p d → DeclaredIn p c d → ⊥
  no_member c d top declared = not_unit (label p (parent p d)) (subst (λ k. label p k ≡ is.Body) (ap (λ r. holder r p d) top.type) declared.inside.body) top.inside

  abbrev IsCanonicalBehind : ℕ → List Text → Type 0
  IsCanonicalBehind d path = (TypeOfPackage p path d × (path ≡ [] → ⊥)) ⊎ ((c : ℕ) × (DeclaredIn p c d × (IsType p d × CanonicalName p c path)))

  canonical_tells : {d : ℕ} {path : List Text} → CanonicalName p d path → (q : List Text) × ((path ≡ q ++ name p d ∷ []) × IsCanonicalBehind d q)
  canonical_tells (CanonicalName.top {path = q} h named) = (q, (refl, inl (h, named)))
  canonical_tells (CanonicalName.member {c = c} {path = q} declared type h) = (q, (refl, inr (c, (declared, (type, h)))))

  none_canonical : (d : ℕ) → CanonicalName p d [] → ⊥
  none_canonical d h = let parts = canonical_tells h in let size = ap length parts.1.0 in let sum = length-append parts.0 (name p d ∷ []) in omega arith

  -- of a name that ends with x
  canonical_last : (d : ℕ) (path : List Text) (x : Text) → CanonicalName p d (path ++ x ∷ []) → (name p d ≡ x) × IsCanonicalBehind d path
  canonical_last d path x h = let parts = canonical_tells h in let same = last_same path parts.0 x (name p d) parts.1.0 in (sym same.1, subst (IsCanonicalBehind d) (sym same.0) parts.1.1)

  one_declaring : (c e d : ℕ) → DeclaredIn p c d → DeclaredIn p e d → e ≡ c
  one_declaring c e d h k = same_Some e c (sym ((declaring_finds p d e).1 k) ∙ (declaring_finds p d c).1 h)

  above_out : (c d n k : ℕ) → DeclaredIn p c d → CanonicalName p d (parts_to p n (suc k)) → CanonicalName p c (parts_to p (n + 1) k)
  above_out c d n k declared h = by (canonical_last d (parts_to p (n + 1) k) (name p n) h).1
    where
      by : IsCanonicalBehind d (parts_to p (n + 1) k) → CanonicalName p c (parts_to p (n + 1) k)
      by (inl top) = absurd (no_member c d top.0.top declared)
      by (inr (e, (other, (type, above)))) = subst (λ x. CanonicalName p x (parts_to p (n + 1) k)) (one_declaring c e d declared other) above

  above_into : (c d n k : ℕ) → IsType p d → name p d ≡ name p n → DeclaredIn p c d → CanonicalName p c (parts_to p (n + 1) k) → CanonicalName p d (parts_to p n (suc k))
  above_into c d n k type same declared h = subst (λ x. CanonicalName p d (parts_to p (n + 1) k ++ x ∷ [])) same (CanonicalName.member declared type h)

  -- ---- a name

  is_name_of_type : (l : Label) → IsTypeName l → IsNameLabel l
  is_name_of_type (is.Name kind.Type at b) h = tt
  is_name_of_type (is.Name kind.PackageOrType at b) h = tt
  is_name_of_type _ h = absurd h

  is_name_before : (k : NameKind) (l : Label) → IsQualifierOf k l → IsNameLabel l
  is_name_before k (is.Name j place.Qualifier b) h = tt
  is_name_before k _ h = absurd h

  name_goes_on : (n : ℕ) (l : Label) → IsNameLabel l → StartsAt p n l → (end p n ≡ n + 1) ⊎ ((end p (n + 1) ≡ end p n) × IsNameLabel (label p (n + 1)))
  name_goes_on n (is.Name k at true) h s = inr (s.0.whole, is_name_before (left_kind k) (label p (n + 1)) s.1)
  name_goes_on n (is.Name k at false) h s = inl s
  name_goes_on n _ h s = absurd h

  name_below : (n : ℕ) → IsNameLabel (label p n) → n < length p
  name_below n h = bounded IsNameLabel (λ none. none) p n h

  pub type_name_below : (n : ℕ) → IsTypeName (label p n) → n < length p
  type_name_below n h = name_below n (is_name_of_type (label p n) h)

  module _ (local : IsLocal p) where
    not_first : (n : ℕ) → IsNameLabel (label p n) → n ≡ 0 → ⊥
    not_first n h none = subst IsNameLabel (ap (label p) none ∙ local.program) h

    goes_on : (n : ℕ) → IsNameLabel (label p n) → (end p n ≡ n + 1) ⊎ ((end p (n + 1) ≡ end p n) × IsNameLabel (label p (n + 1)))
    goes_on n h = name_goes_on n (label p n) h (local.starts n (⊎_elim (λ none. absurd (not_first n h none)) (λ apart. omega arith) (cases_eq n 0)) (name_below n h))

    -- ---- one identifier more

    module _ {c o stop : ℕ} where
      pub read_start : IsType p c → IsTypeName (label p o) → stop ≡ end p o → IsReadTo p c o stop c o
      read_start type named is = let lt = local.tree.nested o in let inside : o < stop = omega arith in let same = spelled_is p o stop inside (sym is) in record {
        le = omega arith;
        type = type;
        named = λ _. is_name_of_type (label p o) named;
        ends = λ _. sym is;
        out = λ h. subst (CanonicalName p c) same h;
        into = λ h. subst (CanonicalName p c) (sym same) h;
      }

      pub read_below : {d n : ℕ} → IsReadTo p c o stop d n → n < stop → n < length p
      read_below {d} {n} h lt = name_below n (h.named lt)

      pub read_stop : {d n : ℕ} → IsReadTo p c o stop d n → n < stop → stop ≤ length p
      read_stop {d} {n} h lt = let inside = local.tree.last n (name_below n (h.named lt)) in let e = h.ends lt in omega arith

      module _ (d n : ℕ) (h : IsReadTo p c o stop d n) where
        steps : n < stop → stop - n ≡ suc (stop - (n + 1))
        steps lt = omega arith

        out_of : n < stop → CanonicalName p c (spelled p o) → CanonicalName p d (parts_to p n (suc (stop - (n + 1))))
        out_of lt k = subst (λ m. CanonicalName p d (parts_to p n m)) (steps lt) (h.out k)

        into_of : n < stop → CanonicalName p d (parts_to p n (suc (stop - (n + 1)))) → CanonicalName p c (spelled p o)
        into_of lt k = h.into (subst (λ m. CanonicalName p d (parts_to p n m)) (sym (steps lt)) k)

        next_name : n < stop → n + 1 < stop → (end p (n + 1) ≡ stop) × IsNameLabel (label p (n + 1))
        next_name lt more = ⊎_elim (λ last. let e = h.ends lt in absurd (omega arith)) (λ k. (k.0 ∙ h.ends lt, k.1)) (goes_on n (h.named lt))

        -- the type that declares it has the rest of the name
        pub read_more : (e : ℕ) → n < stop → name p d ≡ name p n → declaring_type p d ≡ Some e → IsReadTo p c o stop e (n + 1)
        read_more e lt same over = let declared = (declaring_finds p d e).0 over in record {
          le = omega arith;
          type = declared.inside.type;
          named = λ more. (next_name lt more).1;
          ends = λ more. (next_name lt more).0;
          out = λ k. above_out e d n (stop - (n + 1)) declared (out_of lt k);
          into = λ k. into_of lt (above_into e d n (stop - (n + 1)) h.type same declared k);
        }

        -- it has another name
        pub read_other : n < stop → (name p d ≡ name p n → ⊥) → Decides false (CanonicalName p c (spelled p o))
        read_other lt apart = (λ k. absurd (false≢true k), λ k. absurd (apart (canonical_last d (parts_to p (n + 1) (stop - (n + 1))) (name p n) (out_of lt k)).0))

        -- the name has ended
        pub read_end : n ≡ stop → Decides false (CanonicalName p c (spelled p o))
        read_end e = let none : stop - n ≡ 0 = omega arith in (λ k. absurd (false≢true k), λ k. absurd (none_canonical d (subst (λ m. CanonicalName p d (parts_to p n m)) none (h.out k))))

        -- no type declares it: its package has the rest of the name
        pub read_top : (next : ℕ) (b : Bool) → n < stop → name p d ≡ name p n → declaring_type p d ≡ None → next ≡ n + 1 → Decides b (IsTopOf p d next stop) → Decides b (CanonicalName p c (spelled p o))
        read_top next b lt same none is tells = (λ e. into_of lt (top_into (subst (λ m. IsTopOf p d m stop) is (tells.0 e))), λ k. tells.1 (subst (λ m. IsTopOf p d m stop) (sym is) (top_out (canonical_last d (parts_to p (n + 1) (stop - (n + 1))) (name p n) (out_of lt k)).1)))
          where
            rest_is : n + 1 < stop → spelled p (n + 1) ≡ parts_to p (n + 1) (stop - (n + 1))
            rest_is more = spelled_is p (n + 1) stop more (next_name lt more).0

            some_rest : n + 1 < stop → parts_to p (n + 1) (stop - (n + 1)) ≡ [] → ⊥
            some_rest more e = let one : stop - (n + 1) ≡ suc (stop - (n + 1) - 1) = omega arith in let size = ap length (sym (ap (parts_to p (n + 1)) one) ∙ e) in
                let sum = length-append (parts_to p (n + 1 + 1) (stop - (n + 1) - 1)) (name p (n + 1) ∷ []) in omega arith

            top_into : IsTopOf p d (n + 1) stop → CanonicalName p d (parts_to p n (suc (stop - (n + 1))))
            top_into k = subst (λ x. CanonicalName p d (parts_to p (n + 1) (stop - (n + 1)) ++ x ∷ [])) same
                (CanonicalName.top (record { top = k.top; inside = subst (λ q. InPackage p q d) (rest_is k.more) k.inside }) (some_rest k.more))

            top_out : IsCanonicalBehind d (parts_to p (n + 1) (stop - (n + 1))) → IsTopOf p d (n + 1) stop
            top_out (inl (type, named)) = let more : n + 1 < stop = ⊎_elim (λ last. absurd (named (ap (parts_to p (n + 1)) last))) (λ some. omega arith) (cases_eq (stop - (n + 1)) 0) in
                record { more = more; top = type.top; inside = subst (λ q. InPackage p q d) (sym (rest_is more)) type.inside }
            top_out (inr (e, (declared, more))) = absurd (none-some e (sym none ∙ (declaring_finds p d e).1 declared))
