-- The one class Throwable of the prelude.
use Rattle.std.proofs.Common.{◌≡◌, sym, ◌∙◌, ap, ℕ, ◌<◌, Bool, true, false, ◌&&◌, length, codes, Some, None, Decides}
use Rattle.jr_tree.specs.Rows.{Rows}
use Rattle.jr_defs.specs.declared.referent.RowType.{RowType}
use Rattle.jr_defs.specs.Declarations.{IsPrelude}
use Rattle.jr_defs.specs.Referents.{Table}
use Rattle.jr_defs.specs.Types.{class_type}
use Rattle.jr_plain.specs.Search.{Finds}
use Rattle.jr_plain.specs.Declarations.{is_prelude}
use Rattle.jr_plain.specs.Supertypes.{is_subtype}
use Rattle.jr_plain.proofs.Tests.{itself, both, like}
use Rattle.jr_plain.proofs.Searches.{some, finds}
use Rattle.jr_plain.proofs.Bounds.{type_below}
use Rattle.jr_plain.proofs.Declared.{prelude_tells}
use Rattle.jr_plain.proofs.Modified.{found_tells}
use Rattle.jr_lookup.proofs.Instancing.{same_tests}
use Rattle.jr_rules.specs.StatementTests.{is_throwable}
use Rattle.jr_rules.specs.TypedTests.{found}
use Rattle.jr_type_facts.specs.Tables.{throwable_row, HasNoOtherThrowable}

module _ (p : Rows) (t : Table) (a : RowType) where
  abbrev IsOne : ℕ → Type 0
  IsOne c = IsPrelude p (codes "Throwable") c

  abbrev is_below : ℕ → Bool
  is_below c = is_subtype p t a (class_type c)

  one_tells : (c : ℕ) → Decides (is_prelude p (codes "Throwable") c) (IsOne c)
  one_tells c = prelude_tells p (codes "Throwable") c

  within : (c : ℕ) → IsOne c → c < length p
  within c h = type_below p c h.type

  one_found : HasNoOtherThrowable p → Finds (throwable_row p) IsOne
  one_found one = finds (λ c. is_prelude p (codes "Throwable") c) IsOne one_tells (length p) within (λ c d h k. one c d ((one_tells c).1 h) ((one_tells d).1 k))

  such_tells : Decides (is_throwable p t a) ((c : ℕ) × (IsOne c × (is_below c ≡ true)))
  such_tells = some (λ c. is_prelude p (codes "Throwable") c && is_below c) (λ c. IsOne c × (is_below c ≡ true)) (λ c. both (one_tells c) (itself (is_below c))) (length p) (λ c h. within c h.0)

  pub throwable_told : HasNoOtherThrowable p → found (throwable_row p) is_below ≡ is_throwable p t a
  throwable_told one = same_tests _ _ ((c : ℕ) × (IsOne c × (is_below c ≡ true)))
      (like (found_tells IsOne is_below (λ c. is_below c ≡ true) (λ c. itself (is_below c)) (throwable_row p) (one_found one)) (λ h. (h.0, (h.1, h.2))) (λ h. (h.0, h.1.0, h.1.1))) such_tells

  pub throwable_some : (c : ℕ) → HasNoOtherThrowable p → throwable_row p ≡ Some c → is_below c ≡ is_throwable p t a
  throwable_some c one is = sym (ap (λ o. found o is_below) is) ∙ throwable_told one

  pub throwable_none : HasNoOtherThrowable p → throwable_row p ≡ None → false ≡ is_throwable p t a
  throwable_none one is = sym (ap (λ o. found o is_below) is) ∙ throwable_told one
