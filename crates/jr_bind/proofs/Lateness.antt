-- The stages of rows, one by one.
use Rattle.std.proofs.Common.{◌≡◌, refl, sym, ◌∙◌, ap, subst, arith, ⊎_elim, ℕ, Bool, true, false, zero, suc, ◌+◌, List, [], ◌∷◌, ◌++◌, length, length-append, Some, slice_get}
use Rattle.std.proofs.lemmas.Bool.{false≢true, cases_eq}
use Rattle.std.proofs.lemmas.Option.{none-some, same_Some}
use Rattle.jr_tree.specs.Rows.{Rows}
use Rattle.jr_bind.specs.declared.stages.Stage.{Stage}
use Rattle.jr_bind.specs.Late.{IsLateAt, AreLateTo}

-- an item of a list with one more
pub one_more : {A : Type 0} (all : List A) (x : A) (n : ℕ) (s : A) → slice_get (all ++ x ∷ []) n ≡ Some s → (n ≡ length all → ⊥) → slice_get all n ≡ Some s
one_more [] x zero s e apart = absurd (apart refl)
one_more [] x (suc n) s e apart = e
one_more (y ∷ all) x zero s e apart = e
one_more (y ∷ all) x (suc n) s e apart = one_more all x n s e (λ h. apart (ap suc h))

pub last_one : {A : Type 0} (all : List A) (x : A) → slice_get (all ++ x ∷ []) (length all) ≡ Some x
last_one [] x = refl
last_one (y ∷ all) x = last_one all x

pub late_start : (p : Rows) (stages : List Stage) → stages ≡ [] → AreLateTo p stages 0
late_start p stages e = (ap length e, λ n s at. absurd (none-some s (sym (ap (λ all. slice_get all n) e) ∙ at)))

pub late_next : (p : Rows) (stages next : List Stage) (n : ℕ) (x : Stage) → AreLateTo p stages n → next ≡ stages ++ x ∷ [] → IsLateAt p n x → AreLateTo p next (n + 1)
late_next p stages next n x so e late = (
  let g = ap length e ∙ length-append stages (x ∷ []) in let size = so.0 in omega arith,
  λ m s at. ⊎_elim
      (λ same. let here : slice_get (stages ++ x ∷ []) (length stages) ≡ Some s = subst (λ k. slice_get (stages ++ x ∷ []) k ≡ Some s) same (sym (ap (λ all. slice_get all m) e) ∙ at) in
      let is : x ≡ s = same_Some x s (sym (last_one stages x) ∙ here) in subst (λ k. IsLateAt p k s) (sym (same ∙ so.0)) (subst (IsLateAt p n) is late))
      (λ apart. so.1 m s (one_more stages x m s (sym (ap (λ all. slice_get all m) e) ∙ at) apart)) (cases_eq m (length stages)),
)

pub no_header : (ends is_in : Bool) → (ends ≡ true → is_in ≡ true) → is_in ≡ false → ends ≡ false
no_header true is_in h e = absurd (false≢true (sym e ∙ h refl))
no_header false is_in h e = refl
