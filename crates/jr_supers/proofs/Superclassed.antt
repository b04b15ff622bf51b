-- The superclass of each class, in a list.
use Rattle.std.proofs.Common.{◌≡◌, ◌≢◌, refl, sym, ◌∙◌, ap, ap₂, subst, ⊎_elim, arith, ℕ, zero, suc, add-one, ◌+◌, ◌<◌, Bool, true, false, cond, List, length, replicate, Option, Some, None, slice_index_or, slice_set}
use Rattle.std.proofs.lemmas.Bool.{false≢true, cases_eq, or_left, or_right, or_cases}
use Rattle.std.proofs.lemmas.List.{get_or-set_same, get_or-set_other, length-set}
use Rattle.std.proofs.lemmas.Option.{none-some, same_Some}
use Rattle.jr_tree.specs.declared.label.Label.{Label}
use Rattle.jr_tree.specs.declared.label.Label.TheVariants as is
use Rattle.jr_tree.specs.declared.label.NamePlace.TheVariants as place
use Rattle.jr_tree.specs.Rows.{Rows, label}
use Rattle.jr_defs.specs.Referents.{Table}
use Rattle.jr_defs.specs.Declarations.{IsClassLabel}
use Rattle.jr_defs.specs.Supertypes.{IsSuperclassLabel, IsSuperinterfaceLabel, NamesSuperclass, HasImpliedSuperclass, SuperAt, Superclass}
use Rattle.jr_plain.specs.Headed.{IsHeaded}
use Rattle.jr_plain.specs.Declarations.{is_class}
use Rattle.jr_plain.specs.Supertypes.{is_superclass_label}
use Rattle.jr_plain.proofs.Bounds.{type_below}
use Rattle.jr_plain.proofs.Declared.{class_tells}
use Rattle.jr_plain.proofs.Supertyped.{superclass_source}
use Rattle.jr_places.specs.declared.chains.Entry.{Entry}
use Rattle.jr_supers.specs.Direct.{object_row, super_entry, super_at, is_superclass_at, put_entry, with_superclass, superclass_list, SuperclassesStandFirst}
use Rattle.jr_supers.specs.Above.{HasNoOtherObject}
use Rattle.jr_supers.proofs.Directs.{adds_super, super_adds, keyed_row}

superclass_label_out : (l : Label) → is_superclass_label l ≡ true → IsSuperclassLabel l
superclass_label_out (is.Name kind place.Superclass b) h = tt
superclass_label_out _ h = absurd (false≢true h)

superclass_label_into : (l : Label) → IsSuperclassLabel l → is_superclass_label l ≡ true
superclass_label_into (is.Name kind place.Superclass b) h = refl
superclass_label_into _ h = absurd h

no_interface_name : (l : Label) → IsSuperinterfaceLabel l → is_superclass_label l ≡ true → ⊥
no_interface_name (is.Name kind place.Superclass b) h e = h
no_interface_name _ h e = false≢true e

no_class : (l : Label) → IsSuperinterfaceLabel l → IsClassLabel l → ⊥
no_class (is.Class m b) h c = h
no_class _ h c = c

no_class_name : (l : Label) → IsSuperclassLabel l → IsClassLabel l → ⊥
no_class_name (is.Class m b) h c = h
no_class_name _ h c = c

module _ (p : Rows) (t : Table) (headed : IsHeaded p) (one : HasNoOtherObject p) (first : SuperclassesStandFirst p) where
  -- the row n is where c has its superclass from
  Makes : ℕ → ℕ → ℕ → Type 0
  Makes n c s = (is_superclass_at p n ≡ true) × (super_at p t (object_row p) n ≡ Some (super_entry c s))

  -- the name of it, or the class itself
  data IsFrom (c : ℕ) : ℕ → ℕ → Type 0 where
    named : {n s : ℕ} → NamesSuperclass p c n → Superclass p t c s → IsFrom c n s
    implied : {s : ℕ} → HasImpliedSuperclass p c → Superclass p t c s → IsFrom c c s

  from_by : {n : ℕ} (c s : ℕ) → is_superclass_at p n ≡ true → SuperAt p t c n s → IsFrom c n s
  from_by c s at (SuperAt.class k e) = IsFrom.named k (Superclass.named k e)
  from_by c s at (SuperAt.implied i o) = IsFrom.implied i (Superclass.implied i o)
  from_by c s at (SuperAt.interface {n = n} k e) = absurd (⊎_elim (λ h. no_class (label p n) k.names ((class_tells p n).0 h)) (λ h. no_interface_name (label p n) k.names h) (or_cases (is_class p n) (is_superclass_label (label p n)) at))

  makes_from : (n c s : ℕ) → Makes n c s → IsFrom c n s
  unfolding Makes
  makes_from n c s h = from_by c s h.0 (adds_super p t headed one first n c s h.1)

  one_place : {n m : ℕ} (c s r : ℕ) → IsFrom c n s → IsFrom c m r → n ≡ m
  one_place c s r (IsFrom.named {n = n} k x) (IsFrom.named {n = m} j y) = first n k.names ∙ ap (λ a. a + 1) (k.inside ∙ sym j.inside) ∙ sym (first m j.names)
  one_place c s r (IsFrom.named {n = n} k x) (IsFrom.implied i y) = absurd (i.unnamed n k)
  one_place c s r (IsFrom.implied i x) (IsFrom.named {n = m} j y) = absurd (i.unnamed m j)
  one_place c s r (IsFrom.implied i x) (IsFrom.implied j y) = refl

  makes_one : (n m c s r : ℕ) → Makes n c s → Makes m c r → n ≡ m
  makes_one n m c s r h k = one_place c s r (makes_from n c s h) (makes_from m c r k)

  from_superclass : {n : ℕ} (c s : ℕ) → IsFrom c n s → Superclass p t c s
  from_superclass c s (IsFrom.named k x) = x
  from_superclass c s (IsFrom.implied i x) = x

  inside : (n c s : ℕ) → Makes n c s → c < length p
  inside n c s h = type_below p c (superclass_source p t headed c s (from_superclass c s (makes_from n c s h)))

  superclass_makes : (c s : ℕ) → Superclass p t c s → (n : ℕ) × (n < length p) × Makes n c s
  unfolding Makes
  superclass_makes c s (Superclass.named {n = n} k e) = let a = super_adds p t headed one first n c s (SuperAt.class k e) in (n, a.0, (or_right (is_class p n) (is_superclass_label (label p n)) (superclass_label_into (label p n) k.names), a.1))
  superclass_makes c s (Superclass.implied i o) = let a = super_adds p t headed one first c c s (SuperAt.implied i o) in (c, a.0, (or_left (is_class p c) (is_superclass_label (label p c)) ((class_tells p c).1 i.class), a.1))

  -- ---- the list

  length_list : (n : ℕ) → length (superclass_list p t (object_row p) n) ≡ length p
  length_list zero = length_none (length p)
    where
      length_none : (n : ℕ) → length (replicate {A = Option ℕ} n None) ≡ n
      length_none zero = refl
      length_none (suc n) = ap suc (length_none n)
  length_list (suc n) = by (is_superclass_at p n) (super_at p t (object_row p) n) ∙ length_list n
    where
      by : (b : Bool) (o : Option Entry) → length (cond b (put_entry o (superclass_list p t (object_row p) n)) (superclass_list p t (object_row p) n)) ≡ length (superclass_list p t (object_row p) n)
      by true None = refl
      by true (Some e) = length-set (superclass_list p t (object_row p) n) e.first (Some e.row)
      by false o = refl

  abbrev at_list : ℕ → ℕ → Option ℕ
  at_list n c = slice_index_or (superclass_list p t (object_row p) n) c None

  -- what the list has is made by a row
  Says : ℕ → ℕ → ℕ → Type 0
  Says n c s = (at_list n c ≡ Some s → (k : ℕ) × (k < n) × Makes k c s) × ((k : ℕ) × (k < n) × Makes k c s → at_list n c ≡ Some s)

  none_says : (n c : ℕ) → slice_index_or (replicate {A = Option ℕ} n None) c None ≡ None
  none_says zero c = refl
  none_says (suc n) zero = refl
  none_says (suc n) (suc c) = none_says n c

  says_same : (n c s : ℕ) → Says n c s → (Makes n c s → ⊥) → (at_list n c ≡ Some s → (k : ℕ) × (k < suc n) × Makes k c s) × ((k : ℕ) × (k < suc n) × Makes k c s → at_list n c ≡ Some s)
  unfolding Says
  says_same n c s h no' = (
    (λ e. let k = h.0 e in let lt = k.1 in (k.0, omega arith, k.2)),
    (λ k. let lt = k.1 in ⊎_elim (λ same. absurd (no' (subst (λ m. Makes m c s) same k.2))) (λ apart. h.1 (k.0, omega arith, k.2)) (cases_eq k.0 n)),
  )

  -- the row n makes r the superclass of d
  module _ (n d r : ℕ) (made : Makes n d r) where
    abbrev put_at : ℕ → Option ℕ
    put_at c = slice_index_or (slice_set (superclass_list p t (object_row p) n) d (Some r)) c None

    made_entry : (c s : ℕ) → Makes n c s → (d ≡ c) × (r ≡ s)
    unfolding Makes
    made_entry c s k = let e = same_Some (super_entry d r) (super_entry c s) (sym made.1 ∙ k.1) in (ap (λ x. x.first) e, ap (λ x. x.row) e)

    put_now : put_at d ≡ Some r
    put_now = let size = length_list n in let lt = inside n d r made in get_or-set_same (superclass_list p t (object_row p) n) d (Some r) None (omega arith)

    put_here : (s : ℕ) → (put_at d ≡ Some s → (k : ℕ) × (k < suc n) × Makes k d s) × ((k : ℕ) × (k < suc n) × Makes k d s → put_at d ≡ Some s)
    put_here s = (
      (λ f. (n, omega arith, subst (λ y. Makes n d y) (same_Some r s (sym put_now ∙ f)) made)),
      (λ k. let place = makes_one n k.0 d r s made k.2 in put_now ∙ ap Some (made_entry d s (subst (λ m. Makes m d s) (sym place) k.2)).1),
    )

    put_there : (c s : ℕ) → c ≢ d → Says n c s → (put_at c ≡ Some s → (k : ℕ) × (k < suc n) × Makes k c s) × ((k : ℕ) × (k < suc n) × Makes k c s → put_at c ≡ Some s)
    unfolding Says
    put_there c s apart h = let kept = get_or-set_other (superclass_list p t (object_row p) n) d c (Some r) None apart in (
      (λ f. let k = h.0 (sym kept ∙ f) in let lt = k.1 in (k.0, omega arith, k.2)),
      (λ k. let lt = k.1 in ⊎_elim (λ same. absurd (apart (sym (made_entry c s (subst (λ m. Makes m c s) same k.2)).0))) (λ less. kept ∙ h.1 (k.0, omega arith, k.2)) (cases_eq k.0 n)),
    )

    put_says : (c s : ℕ) → Says n c s → (put_at c ≡ Some s → (k : ℕ) × (k < suc n) × Makes k c s) × ((k : ℕ) × (k < suc n) × Makes k c s → put_at c ≡ Some s)
    put_says c s h = ⊎_elim (λ e. subst (λ x. (put_at x ≡ Some s → (k : ℕ) × (k < suc n) × Makes k x s) × ((k : ℕ) × (k < suc n) × Makes k x s → put_at x ≡ Some s)) (sym e) (put_here s)) (λ apart. put_there c s apart h) (cases_eq c d)

  says_next : (n c s : ℕ) → Says n c s → (b : Bool) (o : Option Entry) → is_superclass_at p n ≡ b → super_at p t (object_row p) n ≡ o
      → (slice_index_or (cond b (put_entry o (superclass_list p t (object_row p) n)) (superclass_list p t (object_row p) n)) c None ≡ Some s → (k : ℕ) × (k < suc n) × Makes k c s)
      × ((k : ℕ) × (k < suc n) × Makes k c s → slice_index_or (cond b (put_entry o (superclass_list p t (object_row p) n)) (superclass_list p t (object_row p) n)) c None ≡ Some s)
  unfolding Makes
  says_next n c s h true None e f = says_same n c s h (λ k. none-some (super_entry c s) (sym f ∙ k.1))
  says_next n c s h true (Some x) e f = put_says n x.first x.row (e, f ∙ ap Some (λ i. record { first = x.first; second = keyed_row p t headed one first n x f i; row = x.row })) c s h
  says_next n c s h false o e f = says_same n c s h (λ k. false≢true (sym e ∙ k.0))

  says : (n c s : ℕ) → Says n c s
  unfolding Says
  says zero c s = ((λ e. absurd (none-some s (sym (none_says (length p) c) ∙ e))), (λ k. let lt = k.1 in absurd (omega arith)))
  says (suc n) c s = says_next n c s (says n c s) (is_superclass_at p n) (super_at p t (object_row p) n) refl refl

  pub has_superclasses : (c s : ℕ) → (at_list (length p) c ≡ Some s → Superclass p t c s) × (Superclass p t c s → at_list (length p) c ≡ Some s)
  unfolding Says
  has_superclasses c s = ((λ e. let k = (says (length p) c s).0 e in from_superclass c s (makes_from k.0 c s k.2)), (λ h. (says (length p) c s).1 (superclass_makes c s h)))

pub superclass_more : (p : Rows) (t : Table) (object : Option ℕ) (n : ℕ) (all more : List (Option ℕ)) (e : Option Entry) → all ≡ superclass_list p t object n → e ≡ super_at p t object n → more ≡ with_superclass p n e all
    → more ≡ superclass_list p t object (n + 1)
superclass_more p t object n all more e h is put = rw add-one (put ∙ ap₂ (λ e xs. with_superclass p n e xs) is h)
