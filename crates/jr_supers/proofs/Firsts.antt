-- The first row that passes.
use Rattle.std.proofs.Common.{◌≡◌, sym, ◌∙◌, ap, ap₂, ⊎_elim, arith, ℕ, zero, suc, ◌+◌, ◌<◌, ◌≤◌, Bool, true, cond, add-one, List, ◌++◌, length, Option, Some, None}
use Rattle.std.specs.Option.{option_or}
use Rattle.std.proofs.lemmas.Bool.{cases_eq}
use Rattle.jr_tree.specs.Rows.{Rows}
use Rattle.jr_plain.specs.Search.{first_below}
use Rattle.jr_plain.specs.Declarations.{is_object}
use Rattle.jr_defs.specs.Referents.{Table}
use Rattle.jr_places.specs.declared.chains.Entry.{Entry}
use Rattle.jr_supers.specs.Direct.{object_row, super_at, entry_list, super_entries}

stays : (test : ℕ → Bool) (n k x : ℕ) → n ≤ k → first_below n test ≡ Some x → first_below k test ≡ Some x
stays test n zero x le e = ap (λ m. first_below m test) (let z : 0 ≡ n = omega arith in z) ∙ e
stays test n (suc k) x le e = ⊎_elim (λ same. ap (λ m. first_below m test) (sym same) ∙ e)
    (λ apart. ap (λ o. option_or o (cond (test k) (Some k) None)) (stays test n k x (omega arith) e)) (cases_eq n (suc k))

-- the one at which all before fail
pub object_found : (p : Rows) (n : ℕ) → first_below n (λ k. is_object p k) ≡ None → true ≡ is_object p n → n < length p → Some n ≡ object_row p
object_found p n none h lt = sym (stays (λ k. is_object p k) (suc n) (length p) n (omega arith) (ap₂ (λ o b. option_or o (cond b (Some n) None)) none (sym h)))

pub entries_more : (p : Rows) (t : Table) (object : Option ℕ) (n : ℕ) (all more : List Entry) (e : Option Entry) → all ≡ super_entries p t object n → e ≡ super_at p t object n → more ≡ all ++ entry_list e
    → more ≡ super_entries p t object (n + 1)
entries_more p t object n all more e h is pushed = rw add-one (pushed ∙ ap₂ (λ xs e. xs ++ entry_list e) h is)
