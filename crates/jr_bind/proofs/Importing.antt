-- The imports of a unit that may bring a name, as a list.
use Rattle.std.proofs.Common.{◌≡◌, ◌⊎◌, refl, sym, ◌∙◌, ap, subst, inl, inr, ⊎_elim, ℕ, ◌+◌, Bool, true, false, List, ◌++◌, length, nat_eq, Decides}
use Rattle.std.specs.List.Sorted.{IsPermutation}
use Rattle.std.proofs.lemmas.List.Sorted.{list_any-IsPermutation}
use Rattle.std.proofs.lemmas.Bool.{false≢true, and_parts}
use Rattle.std.proofs.lemmas.Bool.Decides.{Decides-eqb}
use Rattle.jr_tree.specs.declared.label.ImportKind.TheVariants as importing
use Rattle.jr_tree.specs.Rows.{Rows}
use Rattle.jr_plain.specs.Search.{has, Lists}
use Rattle.jr_plain.specs.Imports.{is_import_of}
use Rattle.jr_plain.proofs.Tests.{like}
use Rattle.jr_plain.proofs.Searches.{among_append}
use Rattle.jr_plain.proofs.Imported.{import_of_tells, import_below}
use Rattle.jr_places.specs.Names.{name_row}
use Rattle.jr_members.specs.Keys.{falling}
use Rattle.jr_members.proofs.Declaring.{falling_lists}
use Rattle.jr_lookup.specs.Scopes.{is_single_of, is_static_of}
use Rattle.jr_bind.specs.Edges.{IsImportIn, demanded_unless}

itself : (b : Bool) → Decides b (b ≡ true)
itself b = (λ e. e, λ e. e)

module _ (p : Rows) (unit x : ℕ) where
  abbrev one_of : List ℕ
  one_of = falling (length p) (is_single_of p unit x)

  abbrev other_of : List ℕ
  other_of = falling (length p) (is_static_of p unit x)

  demanded_lists : (is_named : Bool) → Lists (demanded_unless p unit is_named) (λ i. (is_named ≡ false) × (is_import_of p unit importing.OnDemand i ≡ true))
  demanded_lists true i = (λ e. absurd (false≢true e), λ h. absurd (false≢true (sym h.0)))
  demanded_lists false i = like (falling_lists (is_import_of p unit importing.OnDemand) (λ i. is_import_of p unit importing.OnDemand i ≡ true) (length p) (λ d. itself (is_import_of p unit importing.OnDemand d))
      (λ d h. import_below p unit importing.OnDemand d ((import_of_tells p unit importing.OnDemand d).0 h)) i) (λ h. (refl, h)) (λ h. h.1)

  single_lists : Lists (falling (length p) (is_single_of p unit x)) (λ i. is_single_of p unit x i ≡ true)
  single_lists = falling_lists (is_single_of p unit x) (λ i. is_single_of p unit x i ≡ true) (length p) (λ d. itself (is_single_of p unit x d))
      (λ d h. import_below p unit importing.Single d ((import_of_tells p unit importing.Single d).0 ((and_parts (is_import_of p unit importing.Single d) (nat_eq (name_row p (d + 1)) x) h).0)))

  static_lists : Lists (falling (length p) (is_static_of p unit x)) (λ i. is_static_of p unit x i ≡ true)
  static_lists = falling_lists (is_static_of p unit x) (λ i. is_static_of p unit x i ≡ true) (length p) (λ d. itself (is_static_of p unit x d))
      (λ d h. import_below p unit importing.StaticSingle d ((import_of_tells p unit importing.StaticSingle d).0 ((and_parts (is_import_of p unit importing.StaticSingle d) (nat_eq (name_row p d) x) h).0)))

  pub imports_list : (is_named : Bool) (singles statics both all sorted : List ℕ) → singles ≡ falling (length p) (is_single_of p unit x) → statics ≡ falling (length p) (is_static_of p unit x) → both ≡ singles ++ statics
      → all ≡ both ++ demanded_unless p unit is_named → IsPermutation all sorted → Lists sorted (IsImportIn p unit x is_named)
  imports_list is_named singles statics both all sorted one other front is moved i = subst (λ b. Decides b (IsImportIn p unit x is_named i)) (ap (λ xs. has xs i) (sym whole) ∙ list_any-IsPermutation (λ k. nat_eq k i) all sorted moved) told
    where
      whole : all ≡ (one_of ++ other_of) ++ demanded_unless p unit is_named
      whole = is ∙ ap (λ xs. xs ++ demanded_unless p unit is_named) (front ∙ ap (λ xs. xs ++ statics) one ∙ ap (λ xs. one_of ++ xs) other)

      told : Decides (has ((one_of ++ other_of) ++ demanded_unless p unit is_named) i) (IsImportIn p unit x is_named i)
      told = like (among_append nat_eq Decides-eqb (one_of ++ other_of) (demanded_unless p unit is_named) i)
          (⊎_elim (λ h. ⊎_elim (λ a. inl ((single_lists i).0 a)) (λ a. inr (inl ((static_lists i).0 a))) ((among_append nat_eq Decides-eqb one_of other_of i).0 h)) (λ h. inr (inr ((demanded_lists is_named i).0 h))))
          (⊎_elim (λ h. inl ((among_append nat_eq Decides-eqb one_of other_of i).1 (inl ((single_lists i).1 h)))) (⊎_elim (λ h. inl ((among_append nat_eq Decides-eqb one_of other_of i).1 (inr ((static_lists i).1 h)))) (λ h. inr ((demanded_lists is_named i).1 h))))
