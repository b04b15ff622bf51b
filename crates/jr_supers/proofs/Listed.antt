-- What is listed at or above a type.
use Rattle.std.proofs.Common.{◌≡◌, refl, sym, ◌∙◌, ap, subst, inl, inr, ⊎_elim, ℕ, Bool, true, false, cond, List, [], ◌∷◌, ◌++◌, length, Option, Some, None, nat_eq, Decides}
use Rattle.std.specs.List.Sorted.{IsPermutation, IsNonDecreasing}
use Rattle.std.proofs.lemmas.Bool.{false≢true, or_left, or_right, or_cases}
use Rattle.std.proofs.lemmas.Bool.Decides.{Decides-eqb}
use Rattle.std.proofs.lemmas.List.Folds.{list_any-append}
use Rattle.std.proofs.lemmas.List.Sorted.{list_any-IsPermutation}
use Rattle.jr_tree.specs.Rows.{Rows}
use Rattle.jr_defs.specs.Referents.{Table}
use Rattle.jr_defs.specs.Declarations.{IsObject}
use Rattle.jr_defs.specs.Supertypes.{Above, AtOrAbove}
use Rattle.jr_plain.specs.Search.{has, Lists}
use Rattle.jr_plain.specs.Declarations.{is_object}
use Rattle.jr_plain.proofs.Searches.{finds}
use Rattle.jr_plain.proofs.Bounds.{type_below}
use Rattle.jr_plain.proofs.Declared.{object_tells}
use Rattle.jr_supers.specs.declared.subtypes.Supers as code
use Rattle.jr_supers.specs.Above.{at_or_above, is_above_in, tables}
use Rattle.jr_supers.specs.Supers.{AreSupersOf, object_if, once, SortsOnce, ListsOnce}
use Rattle.jr_supers.proofs.Telling.{reaches_above, above_splits, above_tells}
use Rattle.jr_supers.proofs.Collecting.{rests}
use Rattle.jr_supers.proofs.Listing.{once_has, once_is, once_increases}

module _ (p : Rows) (t : Table) (S : code.Supers) (h : AreSupersOf p t S) where
  is_above : (c s : ℕ) → Decides (is_above_in p (tables S.above) c s) (Above p t c s)
  is_above c s = above_tells p t (tables S.above) h.above.above h.well.one h.well.headed c s (h.above.all c)

  object_out : (c s : ℕ) (o : Option ℕ) → has (object_if p S c o) s ≡ true → AtOrAbove p t c s
  object_out c s None at = absurd (false≢true at)
  object_out c s (Some o) at = by (is_above_in p (tables S.above) c o) refl at
    where
      by : (b : Bool) → is_above_in p (tables S.above) c o ≡ b → has (cond b (o ∷ []) []) s ≡ true → AtOrAbove p t c s
      by true e at = ⊎_elim (λ k. inr (subst (λ x. Above p t c x) ((Decides-eqb o s).0 k) ((is_above c o).0 e))) (λ n. absurd (false≢true n)) (or_cases (nat_eq o s) false at)
      by false e at = absurd (false≢true at)

  is_the_object : (s : ℕ) → IsObject p s → S.direct.object ≡ Some s
  is_the_object s o = h.object ∙ (finds (λ n. is_object p n) (λ n. IsObject p n) (λ n. object_tells p n) (length p) (λ k h. type_below p k h.type) (λ j k a b. h.well.one j k a b) s).1 o

  object_into : (c s : ℕ) → Above p t c s → IsObject p s → has (object_if p S c S.direct.object) s ≡ true
  object_into c s up o = ap (λ x. has (object_if p S c x) s) (is_the_object s o) ∙ ap (λ b. has (cond b (s ∷ []) []) s) ((is_above c s).1 up) ∙ or_left (nat_eq s s) false ((Decides-eqb s s).1 refl)

  -- what is listed, before it is sorted
  listed : (c : ℕ) → Lists (at_or_above (tables S.above).links (tables S.above).pairs c ++ object_if p S c S.direct.object) (AtOrAbove p t c)
  listed c s = (out, into)
    where
      out : has (at_or_above (tables S.above).links (tables S.above).pairs c ++ object_if p S c S.direct.object) s ≡ true → AtOrAbove p t c s
      out at = ⊎_elim (λ k. ⊎_elim (λ e. inl e) (λ r. inr (reaches_above p t c s r)) ((rests p t (tables S.above) h.above.above h.well.headed c (h.above.all c) s).0 k)) (λ k. object_out c s S.direct.object k)
          (or_cases (has (at_or_above (tables S.above).links (tables S.above).pairs c) s) (has (object_if p S c S.direct.object) s)
          (sym (list_any-append (λ k. nat_eq k s) (at_or_above (tables S.above).links (tables S.above).pairs c) (object_if p S c S.direct.object)) ∙ at))

      left : has (at_or_above (tables S.above).links (tables S.above).pairs c) s ≡ true → has (at_or_above (tables S.above).links (tables S.above).pairs c ++ object_if p S c S.direct.object) s ≡ true
      left k = list_any-append (λ k. nat_eq k s) (at_or_above (tables S.above).links (tables S.above).pairs c) (object_if p S c S.direct.object)
          ∙ or_left (has (at_or_above (tables S.above).links (tables S.above).pairs c) s) (has (object_if p S c S.direct.object) s) k

      right : has (object_if p S c S.direct.object) s ≡ true → has (at_or_above (tables S.above).links (tables S.above).pairs c ++ object_if p S c S.direct.object) s ≡ true
      right k = list_any-append (λ k. nat_eq k s) (at_or_above (tables S.above).links (tables S.above).pairs c) (object_if p S c S.direct.object)
          ∙ or_right (has (at_or_above (tables S.above).links (tables S.above).pairs c) s) (has (object_if p S c S.direct.object) s) k

      into : AtOrAbove p t c s → has (at_or_above (tables S.above).links (tables S.above).pairs c ++ object_if p S c S.direct.object) s ≡ true
      into (inl e) = left ((rests p t (tables S.above) h.above.above h.well.headed c (h.above.all c) s).1 (inl e))
      into (inr up) = ⊎_elim (λ r. left ((rests p t (tables S.above) h.above.above h.well.headed c (h.above.all c) s).1 (inr r))) (λ o. right (object_into c s up o)) (above_splits p t c s up)

  lists_once : (c : ℕ) (all sorted : List ℕ) → all ≡ at_or_above (tables S.above).links (tables S.above).pairs c ++ object_if p S c S.direct.object → IsPermutation all sorted → IsNonDecreasing sorted
      → ListsOnce (once None sorted) (AtOrAbove p t c)
  lists_once c all sorted is moved rising = record {
    rises = once_increases sorted rising;
    has = λ s. (
      (λ at. (listed c s).0 (ap (λ xs. has xs s) (sym is) ∙ list_any-IsPermutation (λ k. nat_eq k s) all sorted moved ∙ once_is sorted s at)),
      (λ up. once_has sorted s (sym (list_any-IsPermutation (λ k. nat_eq k s) all sorted moved) ∙ ap (λ xs. has xs s) is ∙ (listed c s).1 up)),
    );
  }

  pub once_listed : (c : ℕ) (all out : List ℕ) → all ≡ at_or_above (tables S.above).links (tables S.above).pairs c ++ object_if p S c S.direct.object → SortsOnce all out → ListsOnce out (AtOrAbove p t c)
  once_listed c all out is k = subst (λ xs. ListsOnce xs (AtOrAbove p t c)) (sym k.is) (lists_once c all k.sorted is k.moved k.rising)
