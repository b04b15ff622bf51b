-- The references that may be constant by their form, row by row.
use Rattle.std.proofs.Common.{◌≡◌, refl, sym, ◌∙◌, ap, ⊎_elim, arith, ℕ, zero, suc, ◌+◌, ◌≤◌, ◌<◌, Bool, false, List, [], ◌∷◌, ◌++◌, length, length-append}
use Rattle.std.proofs.lemmas.Bool.{cases_lt}
use Rattle.jr_tree.specs.Labels.{sought_by}
use Rattle.jr_tree.specs.Rows.{Rows}
use Rattle.jr_defs.specs.Referents.{Table}
use Rattle.jr_plain.specs.Constants.{has_form, has_constant_form}
use Rattle.jr_plain.proofs.Bounds.{row_past}
use Rattle.jr_constants.specs.Tables.{picks}

pub record IsForming (form : ℕ → Bool) (all : List Bool) (at : ℕ) : Type 0 where
  pub counted : length all ≡ at
  pub formed : (n : ℕ) → n < at → picks all n ≡ form n

pushed_below : (all : List Bool) (b : Bool) (n : ℕ) → n < length all → picks (all ++ b ∷ []) n ≡ picks all n
pushed_below [] b n lt = absurd (omega arith)
pushed_below (x ∷ xs) b zero lt = refl
pushed_below (x ∷ xs) b (suc n) lt = pushed_below xs b n (omega arith)

pushed_last : (all : List Bool) (b : Bool) → picks (all ++ b ∷ []) (length all) ≡ b
pushed_last [] b = refl
pushed_last (x ∷ xs) b = pushed_last xs b

picks_past : (all : List Bool) (n : ℕ) → length all ≤ n → picks all n ≡ false
picks_past [] n le = refl
picks_past (x ∷ xs) zero le = absurd (omega arith)
picks_past (x ∷ xs) (suc n) le = picks_past xs n (omega arith)

pub forming_start : (form : ℕ → Bool) (all : List Bool) → all ≡ [] → IsForming form all 0
forming_start form all e = record { counted = ap length e; formed = λ n lt. absurd (omega arith) }

pub forming_next : (form : ℕ → Bool) (all next : List Bool) (at : ℕ) (b : Bool) → IsForming form all at → next ≡ all ++ b ∷ [] → b ≡ form at → IsForming form next (at + 1)
forming_next form all next at b so e f = record {
  counted = let g = ap length e ∙ length-append all (b ∷ []) in let h = so.counted in omega arith;
  formed = λ n lt. ap (λ xs. picks xs n) e ∙ ⊎_elim (λ less. let few = so.counted in pushed_below all b n (omega arith) ∙ so.formed n less)
      (λ le. let few = so.counted in let is : n ≡ length all = omega arith in let last : n ≡ at = omega arith in ap (picks (all ++ b ∷ [])) is ∙ pushed_last all b ∙ f ∙ ap form (sym last))
      (cases_lt n at);
}

form_past : (p : Rows) (t : Table) (n : ℕ) → length p ≤ n → has_constant_form p t n ≡ false
form_past p t n le = ap (λ r. has_form p t n (sought_by r.label)) (row_past p n le)

pub forming_end : (p : Rows) (t : Table) (all : List Bool) (at : ℕ) → IsForming (has_constant_form p t) all at → at ≡ length p → (n : ℕ) → picks all n ≡ has_constant_form p t n
forming_end p t all at so e n = ⊎_elim (λ lt. so.formed n lt) (λ le. let few = so.counted in picks_past all n (omega arith) ∙ sym (form_past p t n (omega arith))) (cases_lt n at)
