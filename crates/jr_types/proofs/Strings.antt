-- The first row that is the class String.
use Rattle.std.proofs.Common.{◌≡◌, sym, ◌∙◌, ap, ap₂, ⊎_elim, arith, ℕ, zero, suc, ◌<◌, ◌≤◌, Bool, true, cond, length, Some, None}
use Rattle.std.specs.Option.{option_or}
use Rattle.std.proofs.lemmas.Bool.{cases_eq}
use Rattle.jr_tree.specs.Rows.{Rows}
use Rattle.jr_plain.specs.Search.{first_below}
use Rattle.jr_plain.specs.Declarations.{is_string}
use Rattle.jr_types.specs.Typed.{string_row}

stays : (test : ℕ → Bool) (n k x : ℕ) → n ≤ k → first_below n test ≡ Some x → first_below k test ≡ Some x
stays test n zero x le e = ap (λ m. first_below m test) (let z : 0 ≡ n = omega arith in z) ∙ e
stays test n (suc k) x le e = ⊎_elim (λ same. ap (λ m. first_below m test) (sym same) ∙ e)
    (λ apart. ap (λ o. option_or o (cond (test k) (Some k) None)) (stays test n k x (omega arith) e)) (cases_eq n (suc k))

-- the one at which all before fail
pub string_found : (p : Rows) (n : ℕ) → first_below n (λ k. is_string p k) ≡ None → true ≡ is_string p n → n < length p → Some n ≡ string_row p
string_found p n none h lt = sym (stays (λ k. is_string p k) (suc n) (length p) n (omega arith) (ap₂ (λ o b. option_or o (cond b (Some n) None)) none (sym h)))
