-- Entries under types are their direct supertypes.
use Rattle.std.proofs.Common.{◌≡◌, ◌⊎◌, refl, sym, ◌∙◌, ap, ap₂, subst, inl, inr, ⊎_elim, arith, ℕ, zero, suc, ◌+◌, ◌<◌, Bool, true, false, cond, ◌&&◌, List, [], ◌∷◌, ◌++◌, length, length-append, append-nil, Option, Some, None, nat_eq, Decides}
use Rattle.std.proofs.lemmas.Bool.{false≢true, cases_eq, or_left, or_right, or_cases, and_from, and_parts}
use Rattle.std.proofs.lemmas.Bool.Decides.{Decides-eqb}
use Rattle.std.proofs.lemmas.Option.{none-some, same_Some}
use Rattle.std.proofs.Math.Seq.{get_or-append_seam}
use Rattle.std.proofs.Math.ListN.{get_or-append}
use Rattle.jr_tree.specs.declared.label.Label.{Label}
use Rattle.jr_tree.specs.declared.label.Label.TheVariants as is
use Rattle.jr_tree.specs.declared.label.NamePlace.TheVariants as place
use Rattle.jr_tree.specs.Rows.{Rows, label, parent}
use Rattle.jr_defs.specs.declared.referent.Referent.{Referent}
use Rattle.jr_defs.specs.declared.referent.Referent.TheVariants.{Declared}
use Rattle.jr_defs.specs.Referents.{Table}
use Rattle.jr_defs.specs.Declarations.{IsClassLabel, IsObject}
use Rattle.jr_defs.specs.Supertypes.{IsSuperclassLabel, IsSuperinterfaceLabel, NamesSuperclass, HasImpliedSuperclass, SuperAt}
use Rattle.jr_plain.specs.Search.{has}
use Rattle.jr_plain.specs.Headed.{IsHeaded}
use Rattle.jr_plain.specs.Declarations.{is_object}
use Rattle.jr_plain.specs.Supertypes.{is_superclass_label}
use Rattle.jr_plain.proofs.Tests.{both, like, opposite}
use Rattle.jr_plain.proofs.Searches.{finds}
use Rattle.jr_plain.proofs.Bounds.{class_below, type_below}
use Rattle.jr_plain.proofs.Declared.{class_tells, object_tells}
use Rattle.jr_plain.proofs.Supertyped.{names_superclass_tells, superclass_name_below, superinterface_name_below}
use Rattle.jr_places.specs.declared.chains.Entry.{Entry}
use Rattle.jr_places.specs.Chains.{entry_at, rows_under}
use Rattle.jr_supers.specs.declared.supers.HeaderPlace.{HeaderPlace}
use Rattle.jr_supers.specs.declared.supers.HeaderPlace.TheVariants as header
use Rattle.jr_supers.specs.Direct.{header_place, names_first, has_implied, object_row, super_entry, implied_entry, declared_entry, named_entry, super_at, entry_list, super_entries, supers_in, FallsFrom, HasSupers, SuperclassesStandFirst}
use Rattle.jr_supers.specs.Above.{HasNoOtherObject}

-- ---- one entry more

rows_same : (all more : List Entry) (a b n : ℕ) → ((k : ℕ) → k < n → entry_at all k ≡ entry_at more k) → rows_under all a b n ≡ rows_under more a b n
rows_same all more a b zero same = refl
rows_same all more a b (suc n) same = ap₂ (λ e rest. cond (nat_eq e.first a && nat_eq e.second b) (e.row ∷ rest) rest) (same n (omega arith)) (rows_same all more a b n (λ k lt. same k (omega arith)))

module _ (all : List Entry) (e : Entry) where
  one_more : length (all ++ e ∷ []) ≡ suc (length all)
  one_more = let s = length-append all (e ∷ []) in omega arith

  rows_pushed : (a b : ℕ) → rows_under (all ++ e ∷ []) a b (length (all ++ e ∷ [])) ≡ cond (nat_eq e.first a && nat_eq e.second b) (e.row ∷ rows_under all a b (length all)) (rows_under all a b (length all))
  rows_pushed a b = ap (rows_under (all ++ e ∷ []) a b) one_more
      ∙ ap₂ (λ e rest. cond (nat_eq e.first a && nat_eq e.second b) (e.row ∷ rest) rest) (get_or-append_seam all e [] (record { first = 0; second = 0; row = 0 }))
      (rows_same (all ++ e ∷ []) all a b (length all) (λ k lt. get_or-append all (e ∷ []) (record { first = 0; second = 0; row = 0 }) k lt))

pushed_tells : (all : List Entry) (d r c s : ℕ) (b : Bool) → nat_eq d c ≡ b → Decides (has (cond (b && true) (r ∷ supers_in all c) (supers_in all c)) s) (((d ≡ c) × (r ≡ s)) ⊎ (has (supers_in all c) s ≡ true))
pushed_tells all d r c s true e = (
  λ h. ⊎_elim (λ k. inl ((Decides-eqb d c).0 e, (Decides-eqb r s).0 k)) (λ k. inr k) (or_cases (nat_eq r s) (has (supers_in all c) s) h),
  ⊎_elim (λ k. or_left (nat_eq r s) (has (supers_in all c) s) ((Decides-eqb r s).1 k.1)) (λ k. or_right (nat_eq r s) (has (supers_in all c) s) k),
)
pushed_tells all d r c s false e = (λ h. inr h, ⊎_elim (λ k. absurd (false≢true (sym e ∙ (Decides-eqb d c).1 k.0))) (λ k. k))

-- an entry of a list under its key, or one of those that were there
more_tells : (all : List Entry) (o : Option Entry) (c s : ℕ) → ((e : Entry) → o ≡ Some e → e.second ≡ 0) → Decides (has (supers_in (all ++ entry_list o) c) s) ((o ≡ Some (super_entry c s)) ⊎ (has (supers_in all c) s ≡ true))
more_tells all None c s keyed = let same : supers_in (all ++ []) c ≡ supers_in all c = ap (λ xs. supers_in xs c) (append-nil all) in
    (λ h. inr (ap (λ xs. has xs s) (sym same) ∙ h), ⊎_elim (λ k. absurd (none-some (super_entry c s) k)) (λ k. ap (λ xs. has xs s) same ∙ k))
more_tells all (Some e) c s keyed = let zero_key = keyed e refl in
    let same : supers_in (all ++ e ∷ []) c ≡ cond (nat_eq e.first c && true) (e.row ∷ supers_in all c) (supers_in all c) = rows_pushed all e c 0 ∙ ap (λ k. cond (nat_eq e.first c && nat_eq k 0) (e.row ∷ supers_in all c) (supers_in all c)) zero_key in
    let tells = pushed_tells all e.first e.row c s (nat_eq e.first c) refl in (
      λ h. ⊎_elim (λ k. inl (ap Some (λ i. record { first = k.0 i; second = zero_key i; row = k.1 i }))) (λ k. inr k) (tells.0 (ap (λ xs. has xs s) (sym same) ∙ h)),
      λ h. ap (λ xs. has xs s) same ∙ tells.1 (⊎_elim (λ k. let is = same_Some e (super_entry c s) k in inl (ap (λ x. x.first) is, ap (λ x. x.row) is)) (λ k. inr k) h),
    )

-- ---- what a row adds

superclass_label_is : (l : Label) → is_superclass_label l ≡ true → header_place l ≡ Some header.Superclass
superclass_label_is (is.Name kind place.Superclass b) h = refl
superclass_label_is _ h = absurd (false≢true h)

module _ (p : Rows) (t : Table) (headed : IsHeaded p) (one : HasNoOtherObject p) (first : SuperclassesStandFirst p) where
  -- a class names a superclass where its first child is one
  first_tells : (c : ℕ) → Decides (names_first p c) ((n : ℕ) × NamesSuperclass p c n)
  first_tells c = (out, into)
    where
      out : names_first p c ≡ true → (n : ℕ) × NamesSuperclass p c n
      out h = let k = and_parts (nat_eq (parent p (c + 1)) c) (is_superclass_label (label p (c + 1))) h in
          (c + 1, (names_superclass_tells p c (c + 1)).0 (and_from (is_superclass_label (label p (c + 1))) (nat_eq (parent p (c + 1)) c) k.1 k.0))

      into : (n : ℕ) × NamesSuperclass p c n → names_first p c ≡ true
      into h = let at : h.0 ≡ c + 1 = first h.0 h.1.names ∙ ap (λ m. m + 1) h.1.inside in
          let k = and_parts (is_superclass_label (label p h.0)) (nat_eq (parent p h.0) c) ((names_superclass_tells p c h.0).1 h.1) in
          subst (λ n. (nat_eq (parent p n) c && is_superclass_label (label p n)) ≡ true) at (and_from (nat_eq (parent p h.0) c) (is_superclass_label (label p h.0)) k.1 k.0)

  implied_tells : (c : ℕ) → Decides (has_implied p c) (HasImpliedSuperclass p c)
  implied_tells c = like (both (both (class_tells p c) (opposite (first_tells c))) (opposite (object_tells p c)))
      (λ h. record { class = h.0.0; unnamed = λ n k. h.0.1 (n, k); below = h.1 }) (λ h. ((h.class, λ k. h.unnamed k.0 k.1), h.below))

  object_is : (s : ℕ) → (object_row p ≡ Some s → IsObject p s) × (IsObject p s → object_row p ≡ Some s)
  object_is s = finds (λ n. is_object p n) (λ n. IsObject p n) (λ n. object_tells p n) (length p) (λ k h. type_below p k h.type) (λ j k a b. one j k a b) s

  -- a name in a header
  Named : Label → Type 0
  Named l = IsSuperclassLabel l ⊎ IsSuperinterfaceLabel l

  named_out : (l : Label) (place : HeaderPlace) → header_place l ≡ Some place → IsSuperclassLabel l ⊎ IsSuperinterfaceLabel l
  named_out (is.Name kind place.Superclass b) at h = inl tt
  named_out (is.Name kind place.Superinterface b) at h = inr tt
  named_out _ at h = absurd (none-some at h)

  named_into : (l : Label) → IsSuperclassLabel l ⊎ IsSuperinterfaceLabel l → (place : HeaderPlace) × (header_place l ≡ Some place)
  named_into (is.Name kind place.Superclass b) h = (header.Superclass, refl)
  named_into (is.Name kind place.Superinterface b) h = (header.Superinterface, refl)
  named_into _ h = absurd (⊎_elim (λ k. k) (λ k. k) h)

  no_class : (l : Label) → IsSuperclassLabel l ⊎ IsSuperinterfaceLabel l → IsClassLabel l → ⊥
  no_class (is.Class m b) h c = ⊎_elim (λ k. k) (λ k. k) h
  no_class _ h c = c

  declared_out : (c d s : ℕ) (a : Referent) → declared_entry c a ≡ Some (super_entry d s) → (level : Option ℕ) × (a ≡ Declared s level) × (c ≡ d)
  declared_out c d s (Declared r level) e = let is = same_Some (super_entry c r) (super_entry d s) e in (level, ap (λ x. Declared x level) (ap (λ x. x.row) is), ap (λ x. x.first) is)
  declared_out c d s _ e = absurd (none-some (super_entry d s) e)

  Adds : ℕ → ℕ → ℕ → Type 0
  Adds n c s = super_at p t (object_row p) n ≡ Some (super_entry c s)

  named_by : (n c s : ℕ) (o : Option HeaderPlace) → header_place (label p n) ≡ o → named_entry (parent p n) (t n) o ≡ Some (super_entry c s) → SuperAt p t c n s
  named_by n c s None e h = absurd (none-some (super_entry c s) h)
  named_by n c s (Some place) e h = let d = declared_out (parent p n) c s (t n) h in
      ⊎_elim (λ k. SuperAt.class (record { names = k; inside = d.2 }) d.1) (λ k. SuperAt.interface (record { names = k; inside = d.2 }) d.1) (named_out (label p n) place e)

  implied_by : (n c s : ℕ) (o : Option ℕ) → object_row p ≡ o → HasImpliedSuperclass p n → implied_entry n o ≡ Some (super_entry c s) → SuperAt p t c n s
  implied_by n c s None e i h = absurd (none-some (super_entry c s) h)
  implied_by n c s (Some r) e i h = let is = same_Some (super_entry n r) (super_entry c s) h in let at = ap (λ x. x.first) is in
      subst (λ m. SuperAt p t m n s) at (SuperAt.implied i (subst (λ x. IsObject p x) (ap (λ x. x.row) is) ((object_is r).0 e)))

  adds_out : (n c s : ℕ) (b : Bool) → has_implied p n ≡ b → cond b (implied_entry n (object_row p)) (named_entry (parent p n) (t n) (header_place (label p n))) ≡ Some (super_entry c s) → SuperAt p t c n s
  adds_out n c s true e h = implied_by n c s (object_row p) refl ((implied_tells n).0 e) h
  adds_out n c s false e h = named_by n c s (header_place (label p n)) refl h

  not_implied : (n : ℕ) → IsSuperclassLabel (label p n) ⊎ IsSuperinterfaceLabel (label p n) → has_implied p n ≡ false
  not_implied n k = by (has_implied p n) refl
    where
      by : (b : Bool) → has_implied p n ≡ b → b ≡ false
      by true e = absurd (no_class (label p n) k ((implied_tells n).0 e).class)
      by false e = refl

  named_adds : (n c s : ℕ) (level : Option ℕ) → IsSuperclassLabel (label p n) ⊎ IsSuperinterfaceLabel (label p n) → parent p n ≡ c → t n ≡ Declared s level → Adds n c s
  unfolding Adds
  named_adds n c s level k inside refers = let place = named_into (label p n) k in
      ap (λ b. cond b (implied_entry n (object_row p)) (named_entry (parent p n) (t n) (header_place (label p n)))) (not_implied n k)
      ∙ ap (named_entry (parent p n) (t n)) place.1 ∙ ap₂ declared_entry inside refers

  adds_into : {n : ℕ} (c s : ℕ) → SuperAt p t c n s → Adds n c s
  unfolding Adds
  adds_into c s (SuperAt.class {n = n} {level = level} k e) = named_adds n c s level (inl k.names) k.inside e
  adds_into c s (SuperAt.interface {n = n} {level = level} k e) = named_adds n c s level (inr k.names) k.inside e
  adds_into c s (SuperAt.implied i o) = ap (λ b. cond b (implied_entry c (object_row p)) (named_entry (parent p c) (t c) (header_place (label p c)))) ((implied_tells c).1 i) ∙ ap (implied_entry c) ((object_is s).1 o)

  place_below : {n : ℕ} (c s : ℕ) → SuperAt p t c n s → n < length p
  place_below c s (SuperAt.class {n = n} k e) = superclass_name_below p c n k
  place_below c s (SuperAt.interface {n = n} k e) = superinterface_name_below p c n k
  place_below c s (SuperAt.implied i o) = class_below p c i.class

  -- ---- all rows

  keyed : (n : ℕ) (e : Entry) → super_at p t (object_row p) n ≡ Some e → e.second ≡ 0
  keyed n e h = by_test (has_implied p n) h
    where
      by_implied : (o : Option ℕ) → implied_entry n o ≡ Some e → e.second ≡ 0
      by_implied None h = absurd (none-some e h)
      by_implied (Some s) h = sym (ap (λ x. x.second) (same_Some (super_entry n s) e h))

      by_declared : (a : Referent) → declared_entry (parent p n) a ≡ Some e → e.second ≡ 0
      by_declared (Declared s level) h = sym (ap (λ x. x.second) (same_Some (super_entry (parent p n) s) e h))
      by_declared _ h = absurd (none-some e h)

      by_named : (o : Option HeaderPlace) → named_entry (parent p n) (t n) o ≡ Some e → e.second ≡ 0
      by_named None h = absurd (none-some e h)
      by_named (Some place) h = by_declared (t n) h

      by_test : (b : Bool) → cond b (implied_entry n (object_row p)) (named_entry (parent p n) (t n) (header_place (label p n))) ≡ Some e → e.second ≡ 0
      by_test true h = by_implied (object_row p) h
      by_test false h = by_named (header_place (label p n)) h

  entries_tell : (n c s : ℕ) → Decides (has (supers_in (super_entries p t (object_row p) n) c) s) ((k : ℕ) × (k < n) × Adds k c s)
  unfolding Adds
  entries_tell zero c s = (λ h. absurd (false≢true h), λ h. let lt = h.1 in absurd (omega arith))
  entries_tell (suc n) c s = like (more_tells (super_entries p t (object_row p) n) (super_at p t (object_row p) n) c s (keyed n))
      (⊎_elim (λ k. (n, omega arith, k)) (λ k. let h = (entries_tell n c s).0 k in let lt = h.1 in (h.0, omega arith, h.2)))
      (λ h. let lt = h.1 in ⊎_elim (λ e. inl (subst (λ m. super_at p t (object_row p) m ≡ Some (super_entry c s)) e h.2)) (λ apart. inr ((entries_tell n c s).1 (h.0, omega arith, h.2))) (cases_eq h.0 n))

  -- ---- in the order of their places

  falls_kept : (n c : ℕ) (all : List ℕ) → ((s : ℕ) → SuperAt p t c n s → ⊥) → FallsFrom p t c n all → FallsFrom p t c (suc n) all
  falls_kept n c [] none h = λ m s lt at. ⊎_elim (λ same. none s (subst (λ k. SuperAt p t c k s) same at)) (λ apart. h m s (omega arith) at) (cases_eq m n)
  falls_kept n c (s ∷ more) none h = let lt = h.1 in
      (h.0, omega arith, h.2, (λ k r low high at. ⊎_elim (λ same. none r (subst (λ m. SuperAt p t c m r) same at)) (λ apart. h.3 k r low (omega arith) at) (cases_eq k n)), h.4)

  falls_more : (n c : ℕ) (all : List Entry) (o : Option Entry) → super_at p t (object_row p) n ≡ o → FallsFrom p t c n (supers_in all c) → FallsFrom p t c (suc n) (supers_in (all ++ entry_list o) c)
  unfolding Adds
  falls_more n c all None e h = subst (λ xs. FallsFrom p t c (suc n) (supers_in xs c)) (sym (append-nil all)) (falls_kept n c (supers_in all c) (λ s at. none-some (super_entry c s) (sym e ∙ adds_into c s at)) h)
  falls_more n c all (Some x) e h = subst (λ xs. FallsFrom p t c (suc n) xs) (sym listed) (by (nat_eq x.first c) refl)
    where
      zero_key : x.second ≡ 0
      zero_key = keyed n x e

      listed : supers_in (all ++ x ∷ []) c ≡ cond (nat_eq x.first c && true) (x.row ∷ supers_in all c) (supers_in all c)
      listed = rows_pushed all x c 0 ∙ ap (λ k. cond (nat_eq x.first c && nat_eq k 0) (x.row ∷ supers_in all c) (supers_in all c)) zero_key

      by : (b : Bool) → nat_eq x.first c ≡ b → FallsFrom p t c (suc n) (cond (b && true) (x.row ∷ supers_in all c) (supers_in all c))
      by true is = let first = (Decides-eqb x.first c).0 is in
          (n, omega arith, adds_out n c x.row (has_implied p n) refl (e ∙ ap Some (λ i. record { first = first i; second = zero_key i; row = x.row })), (λ k r low high at. absurd (omega arith)), h)
      by false is = falls_kept n c (supers_in all c) (λ s at. absurd (false≢true (sym is ∙ (Decides-eqb x.first c).1 (ap (λ x. x.first) (same_Some x (super_entry c s) (sym e ∙ adds_into c s at)))))) h

  falls_to : (n c : ℕ) → FallsFrom p t c n (supers_in (super_entries p t (object_row p) n) c)
  falls_to zero c = λ m s lt at. absurd (omega arith)
  falls_to (suc n) c = falls_more n c (super_entries p t (object_row p) n) (super_at p t (object_row p) n) refl (falls_to n c)

  pub has_supers : HasSupers p t (super_entries p t (object_row p) (length p))
  unfolding Adds
  has_supers = record {
    each = λ c s. like (entries_tell (length p) c s) (λ h. record { place = h.0; at = adds_out h.0 c s (has_implied p h.0) refl h.2 }) (λ h. (h.place, place_below c s h.at, adds_into c s h.at));
    falls = falls_to (length p);
  }

  pub adds_super : (n c s : ℕ) → super_at p t (object_row p) n ≡ Some (super_entry c s) → SuperAt p t c n s
  adds_super n c s h = adds_out n c s (has_implied p n) refl h

  pub super_adds : (n c s : ℕ) → SuperAt p t c n s → (n < length p) × (super_at p t (object_row p) n ≡ Some (super_entry c s))
  unfolding Adds
  super_adds n c s h = (place_below c s h, adds_into c s h)

  pub keyed_row : (n : ℕ) (e : Entry) → super_at p t (object_row p) n ≡ Some e → e.second ≡ 0
  keyed_row n e h = keyed n e h
