-- Tables in which each entry is told by those before it.
use Rattle.std.proofs.Common.{◌≡◌, refl, sym, ◌∙◌, ap, ap₂, add-one, ⊎_elim, arith, ℕ, zero, suc, ◌+◌, ◌<◌, ◌≤◌, Bool, true, false, cond, List, [], ◌∷◌, ◌++◌, length, codes, get_or, Option, Some, None}
use Rattle.std.specs.Option.{option_or}
use Rattle.std.proofs.lemmas.Bool.{cases_eq, cases_lt}
use Rattle.std.proofs.lemmas.List.{get_or_past}
use Rattle.jr_tree.specs.declared.label.Label.{Label}
use Rattle.jr_tree.specs.declared.label.Label.TheVariants as is
use Rattle.jr_tree.specs.declared.tree.Primitive.{Primitive}
use Rattle.jr_tree.specs.Labels.{role_of}
use Rattle.jr_tree.specs.Rows.{Rows, label}
use Rattle.jr_defs.specs.declared.referent.RowType.{RowType}
use Rattle.jr_defs.specs.declared.referent.Space.TheVariants as space
use Rattle.jr_defs.specs.Referents.{Table}
use Rattle.jr_plain.specs.Search.{first_below}
use Rattle.jr_plain.specs.Declarations.{is_of, is_prelude, is_variable}
use Rattle.jr_plain.specs.Overloads.{Types}
use Rattle.jr_plain.specs.Types.{type_of_declared}
use Rattle.jr_plain.proofs.Bounds.{label_past}
use Rattle.jr_places.specs.Tabulated.{tabulated}
use Rattle.jr_places.proofs.Tables.{length-tabulated, tabulated_at}
use Rattle.jr_rules.specs.PlaceTests.{held_by}
use Rattle.jr_type_facts.specs.Tables.{grown, throwable_row}

module _ {A : Type 0} (by : List A → ℕ → A) where
  pub grown_more : (n : ℕ) (all known more : List A) (x : A) → all ≡ grown by n → known ≡ all → x ≡ by known n → more ≡ all ++ x ∷ [] → more ≡ grown by (n + 1)
  grown_more n all known more x h same is pushed = rw add-one (pushed ∙ ap₂ (λ xs x. xs ++ x ∷ []) h (is ∙ ap (λ xs. by xs n) (same ∙ h)))

  -- the table is that of a function, if each step is
  grown_is : (f : ℕ → A) (size : ℕ) → ((n : ℕ) → n < size → by (tabulated f n) n ≡ f n) → (n : ℕ) → n ≤ size → grown by n ≡ tabulated f n
  grown_is f size step zero le = refl
  grown_is f size step (suc n) le = ap₂ (λ xs x. xs ++ x ∷ []) (grown_is f size step n (omega arith)) (ap (λ xs. by xs n) (grown_is f size step n (omega arith)) ∙ step n (omega arith))

  pub grown_told : (f : ℕ → A) (size : ℕ) (d : A) (all : List A) → all ≡ grown by size → ((n : ℕ) → n < size → by (tabulated f n) n ≡ f n) → ((n : ℕ) → size ≤ n → d ≡ f n) → (n : ℕ) → get_or all n d ≡ f n
  grown_told f size d all is step past n = ap (λ xs. get_or xs n d) (is ∙ grown_is f size step size (omega arith)) ∙ ⊎_elim (λ lt. tabulated_at f d size n lt)
      (λ le. let long = length-tabulated f size in get_or_past (tabulated f size) n d (omega arith) ∙ past n le) (cases_lt n size)

-- ---- the class Throwable

stays : (test : ℕ → Bool) (n k x : ℕ) → n ≤ k → first_below n test ≡ Some x → first_below k test ≡ Some x
stays test n zero x le e = ap (λ m. first_below m test) (let z : 0 ≡ n = omega arith in z) ∙ e
stays test n (suc k) x le e = ⊎_elim (λ same. ap (λ m. first_below m test) (sym same) ∙ e)
    (λ apart. ap (λ o. option_or o (cond (test k) (Some k) None)) (stays test n k x (omega arith) e)) (cases_eq n (suc k))

pub throwable_found : (p : Rows) (n : ℕ) → first_below n (λ k. is_prelude p (codes "Throwable") k) ≡ None → true ≡ is_prelude p (codes "Throwable") n → n < length p → Some n ≡ throwable_row p
throwable_found p n none h lt = sym (stays (λ k. is_prelude p (codes "Throwable") k) (suc n) (length p) n (omega arith) (ap₂ (λ o b. option_or o (cond b (Some n) None)) none (sym h)))

-- ---- initializers

pub held_other : (p : Rows) (t : Table) (types : Types) (m : ℕ) (x : Option RowType) (l : Label) → (l ≡ is.List → ⊥) → ((base : Option Primitive) (lengths more : ℕ) → l ≡ is.NewArray base lengths more → ⊥)
    → cond (is_variable p m) (type_of_declared p t m) None ≡ held_by p t types m x l
held_other p t types m x is.List h k = absurd (h refl)
held_other p t types m x (is.NewArray base lengths more) h k = absurd (k base lengths more refl)
held_other p t types m x _ h k = refl

-- what is past the end holds nothing
pub held_past : (p : Rows) (t : Table) (types : Types) (m : ℕ) (x : Option RowType) → length p ≤ m → None ≡ held_by p t types m x (label p m)
held_past p t types m x le = sym (ap (held_by p t types m x) past ∙ ap (λ b. cond b (type_of_declared p t m) None) none)
  where
    past : label p m ≡ is.Skip
    past = label_past p m le

    none : is_variable p m ≡ false
    none = ap (λ l. is_of space.Variable (role_of l)) past
