-- The first class of a name in java.lang is the one, and a class is checked by these.
use Rattle.std.proofs.Common.{◌≡◌, refl, sym, ◌∙◌, ap, ap₂, subst, ⊎_elim, arith, ℕ, zero, suc, ◌<◌, ◌≤◌, Bool, true, false, cond, not, ◌&&◌, codes, length, Option, Some, None, Decides}
use Rattle.std.specs.Option.{option_or}
use Rattle.std.proofs.lemmas.Bool.{false≢true, cases_eq}
use Rattle.std.proofs.lemmas.Option.{none-some, same_Some}
use Rattle.jr_base.specs.declared.text.Text.{Text}
use Rattle.jr_tree.specs.Rows.{Rows}
use Rattle.jr_defs.specs.Referents.{Table}
use Rattle.jr_defs.specs.Declarations.{IsPrelude}
use Rattle.jr_defs.specs.Supertypes.{AtOrAbove}
use Rattle.jr_defs.specs.MemberRules.{IsChecked}
use Rattle.jr_plain.specs.Search.{first_below, Finds}
use Rattle.jr_plain.specs.Declarations.{is_prelude}
use Rattle.jr_plain.proofs.Bounds.{type_below}
use Rattle.jr_plain.proofs.Declared.{prelude_tells}
use Rattle.jr_plain.proofs.Searches.{finds}
use Rattle.jr_plain.proofs.Tests.{both, opposite, like}
use Rattle.jr_flow_faults.specs.Roots.{prelude_type, HasNoOther, HasOneOfEach, AreRoots, IsBelow}
use Rattle.jr_flow_faults.specs.declared.classes.Roots as code

-- ---- the search

stays : (test : ℕ → Bool) (n k x : ℕ) → n ≤ k → first_below n test ≡ Some x → first_below k test ≡ Some x
stays test n zero x le e = ap (λ m. first_below m test) (let z : 0 ≡ n = omega arith in z) ∙ e
stays test n (suc k) x le e = ⊎_elim (λ same. ap (λ m. first_below m test) (sym same) ∙ e)
    (λ apart. ap (λ o. option_or o (cond (test k) (Some k) None)) (stays test n k x (omega arith) e)) (cases_eq n (suc k))

module _ (p : Rows) (x : Text) where
  pub root_found : (n : ℕ) → first_below n (is_prelude p x) ≡ None → true ≡ is_prelude p x n → n < length p → Some n ≡ prelude_type p x
  root_found n none h lt = sym (stays (is_prelude p x) (suc n) (length p) n (omega arith) (ap₂ (λ o b. option_or o (cond b (Some n) None)) none (sym h)))

  pub root_next : (n : ℕ) → first_below n (is_prelude p x) ≡ None → false ≡ is_prelude p x n → first_below (suc n) (is_prelude p x) ≡ None
  root_next n none h = ap₂ (λ o b. option_or o (cond b (Some n) None)) none (sym h)

  pub root_none : (n : ℕ) → first_below n (is_prelude p x) ≡ None → n ≡ length p → None ≡ prelude_type p x
  root_none n none e = sym none ∙ ap (λ n. first_below n (is_prelude p x)) e

  root_finds : HasNoOther p x → Finds (prelude_type p x) (IsPrelude p x)
  root_finds one = finds (is_prelude p x) (IsPrelude p x) (prelude_tells p x) (length p) (λ k h. type_below p k h.type) one

pub roots_told : (p : Rows) (a b c d : Option ℕ) → HasOneOfEach p → a ≡ prelude_type p (codes "Throwable") → b ≡ prelude_type p (codes "Exception") → c ≡ prelude_type p (codes "Error")
    → d ≡ prelude_type p (codes "RuntimeException") → AreRoots p (record { throwable = a; exception = b; error = c; runtime = d })
roots_told p a b c d one e f g h = record {
  throwable = subst (λ o. Finds o (IsPrelude p (codes "Throwable"))) (sym e) (root_finds p (codes "Throwable") one.throwable);
  exception = subst (λ o. Finds o (IsPrelude p (codes "Exception"))) (sym f) (root_finds p (codes "Exception") one.exception);
  error = subst (λ o. Finds o (IsPrelude p (codes "Error"))) (sym g) (root_finds p (codes "Error") one.error);
  runtime = subst (λ o. Finds o (IsPrelude p (codes "RuntimeException"))) (sym h) (root_finds p (codes "RuntimeException") one.runtime);
}

-- ---- checked classes

module _ (p : Rows) (t : Table) (c : ℕ) where
  pub below_some : (s : ℕ) (b : Bool) → Decides b (AtOrAbove p t c s) → Decides b (IsBelow p t c (Some s))
  below_some s b d = like d (λ h. (s, refl, h)) (λ h. subst (λ r. AtOrAbove p t c r) (sym (same_Some s h.0 h.1)) h.2)

  pub below_none : Decides false (IsBelow p t c None)
  below_none = (λ h. absurd (false≢true h), λ h. absurd (none-some h.0 h.1))

  pub checked_told : (roots : code.Roots) (a b d : Bool) → AreRoots p roots → Decides a (IsBelow p t c roots.throwable) → Decides b (IsBelow p t c roots.error) → Decides d (IsBelow p t c roots.runtime)
      → Decides (a && (not b && not d)) (IsChecked p t c)
  checked_told roots a b d are x y z = like (both x (both (opposite y) (opposite z)))
      (λ h. record {
        throwable = h.0.0;
        is_throwable = (are.throwable h.0.0).0 h.0.1;
        below_it = h.0.2;
        no_error = λ e i above. h.1.0 (e, (are.error e).1 i, above);
        no_runtime = λ e i above. h.1.1 (e, (are.runtime e).1 i, above);
      })
      (λ h. ((h.throwable, (are.throwable h.throwable).1 h.is_throwable, h.below_it), (λ k. h.no_error k.0 ((are.error k.0).0 k.1) k.2, λ k. h.no_runtime k.0 ((are.runtime k.0).0 k.1) k.2)))
