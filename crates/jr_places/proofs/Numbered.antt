-- Numbers of lists are one to one.
use Rattle.std.proofs.Common.{◌≡◌, ◌⊎◌, refl, sym, ◌∙◌, ap, ap₂, subst, inl, inr, ⊎_elim, arith, ℕ, ◌+◌, Bool, true, false, ◌&&◌, cond, List, ◌∷◌, Option, Some, None, nat_eq}
use Rattle.std.proofs.lemmas.Bool.{and_parts}
use Rattle.std.proofs.lemmas.Bool.Decides.{Decides-eqb}
use Rattle.std.proofs.lemmas.Option.{none-some, same_Some}
use Rattle.std.specs.HashMap.{IsEmpty}
use Rattle.std.specs.Map.{lookup}
use Rattle.jr_places.specs.declared.numbering.Numbering.{Numbering}
use Rattle.jr_places.specs.Chains.{same_pair}
use Rattle.jr_places.specs.Numbers.{number_in, IsOneToOne, AreCounted, IsNumbering, Adds, IsNumberOf}

-- ---- one list with an item more

pub none_counted : (numbers : Numbering) → IsEmpty numbers.steps → IsNumbering numbers
none_counted numbers empty = record {
  one = record {
    above = λ list item e. none-some 0 (sym (no_number list item) ∙ e);
    one = λ list item other more n e f. absurd (none-some n (sym (no_number list item) ∙ e));
  };
  few = λ list item n e. absurd (none-some n (sym (no_number list item) ∙ e));
}
  where
    no_number : (list item : ℕ) → number_in numbers list item ≡ None
    no_number list item = ap (lookup (λ q. same_pair (list, item) q)) empty

-- it has a number
pub adds_known : (numbers : Numbering) (list item known : ℕ) → IsNumbering numbers → number_in numbers list item ≡ Some known → Adds numbers numbers list item known
adds_known numbers list item known h e = record { has = e; kept = λ other more m f. f; counted = h }

-- the numbers with one more
module _ (old new : ℕ → ℕ → Option ℕ) (list item count next : ℕ) (h : AreCounted old count) (fresh : old list item ≡ None) (follows : next ≡ count + 1)
    (updates : (other more : ℕ) → new other more ≡ cond (same_pair (list, item) (other, more)) (Some next) (old other more)) where
  -- it is the new one, or had its number
  abbrev Was : ℕ → ℕ → ℕ → Type 0
  Was other more n = ((list ≡ other) × (item ≡ more) × (n ≡ next)) ⊎ (old other more ≡ Some n)

  was : (other more n : ℕ) → new other more ≡ Some n → Was other more n
  was other more n e = by (same_pair (list, item) (other, more)) refl (sym (updates other more) ∙ e)
    where
      by : (b : Bool) → same_pair (list, item) (other, more) ≡ b → cond b (Some next) (old other more) ≡ Some n → ((list ≡ other) × (item ≡ more) × (n ≡ next)) ⊎ (old other more ≡ Some n)
      by true same e = let both = and_parts (nat_eq list other) (nat_eq item more) same in inl ((Decides-eqb list other).0 both.0, (Decides-eqb item more).0 both.1, sym (same_Some next n e))
      by false same e = inr e

  kept : (other more n : ℕ) → old other more ≡ Some n → new other more ≡ Some n
  kept other more n e = updates other more ∙ by (same_pair (list, item) (other, more)) refl
    where
      by : (b : Bool) → same_pair (list, item) (other, more) ≡ b → cond b (Some next) (old other more) ≡ Some n
      by true same = let both = and_parts (nat_eq list other) (nat_eq item more) same in
          absurd (none-some n (sym fresh ∙ ap₂ old ((Decides-eqb list other).0 both.0) ((Decides-eqb item more).0 both.1) ∙ e))
      by false same = e

  has : new list item ≡ Some next
  has = updates list item ∙ ap (λ b. cond b (Some next) (old list item)) (ap₂ (λ a b. a && b) ((Decides-eqb list list).1 refl) ((Decides-eqb item item).1 refl))

  counted : AreCounted new next
  counted = record {
    one = record {
      above = λ other more e. ⊎_elim (λ k. let z = k.2 in absurd (omega arith)) (λ k. h.one.above other more k) (was other more 0 e);
      one = λ one first other more n e f. ⊎_elim
          (λ a. ⊎_elim (λ b. (sym a.0 ∙ b.0, sym a.1 ∙ b.1)) (λ b. let le = h.few other more n b in let z = a.2 in absurd (omega arith)) (was other more n f))
          (λ a. ⊎_elim (λ b. let le = h.few one first n a in let z = b.2 in absurd (omega arith)) (λ b. h.one.one one first other more n a b) (was other more n f))
          (was one first n e);
    };
    few = λ other more n e. ⊎_elim (λ k. let z = k.2 in omega arith) (λ k. let le = h.few other more n k in omega arith) (was other more n e);
  }

pub adds_next : (old new : Numbering) (list item next : ℕ) → IsNumbering old → number_in old list item ≡ None → next ≡ old.count + 1 → new.count ≡ next
    → ((other more : ℕ) → number_in new other more ≡ cond (same_pair (list, item) (other, more)) (Some next) (number_in old other more)) → Adds old new list item next
adds_next old new list item next h fresh follows count updates = record {
  has = has (number_in old) (number_in new) list item old.count next h fresh follows updates;
  kept = kept (number_in old) (number_in new) list item old.count next h fresh follows updates;
  counted = subst (AreCounted (number_in new)) (sym count) (counted (number_in old) (number_in new) list item old.count next h fresh follows updates);
}

-- ---- lists

pub number_kept : (old new : ℕ → ℕ → Option ℕ) → ((list item n : ℕ) → old list item ≡ Some n → new list item ≡ Some n) → (n : ℕ) (xs : List ℕ) → IsNumberOf old n xs → IsNumberOf new n xs
number_kept old new kept _ _ IsNumberOf.empty = IsNumberOf.empty
number_kept old new kept n _ (IsNumberOf.more {list = list} {item = item} {before = before} h e) = IsNumberOf.more (number_kept old new kept list before h) (kept list item n e)

module _ (numbers : ℕ → ℕ → Option ℕ) where
  -- a list has one number
  pub one_number : (n m : ℕ) (xs : List ℕ) → IsNumberOf numbers n xs → IsNumberOf numbers m xs → n ≡ m
  one_number _ _ _ IsNumberOf.empty IsNumberOf.empty = refl
  one_number n m _ (IsNumberOf.more {list = list} {item = item} {before = before} h e) (IsNumberOf.more {list = other} k f) =
      same_Some n m (sym e ∙ ap (λ l. numbers l item) (one_number list other before h k) ∙ f)

  -- and a number one list
  pub one_list : IsOneToOne numbers → (n : ℕ) (xs ys : List ℕ) → IsNumberOf numbers n xs → IsNumberOf numbers n ys → xs ≡ ys
  one_list one n xs ys h k = by n n xs ys refl h k
    where
      by : (n m : ℕ) (xs ys : List ℕ) → n ≡ m → IsNumberOf numbers n xs → IsNumberOf numbers m ys → xs ≡ ys
      by _ _ _ _ same IsNumberOf.empty IsNumberOf.empty = refl
      by _ m _ _ same IsNumberOf.empty (IsNumberOf.more {list = list} {item = item} k f) = absurd (one.above list item (f ∙ ap Some (sym same)))
      by n _ _ _ same (IsNumberOf.more {list = list} {item = item} h e) IsNumberOf.empty = absurd (one.above list item (e ∙ ap Some same))
      by n m _ _ same (IsNumberOf.more {list = list} {item = item} {before = before} h e) (IsNumberOf.more {list = other} {item = more} {before = behind} k f) =
          let keys = one.one list item other more n e (f ∙ ap Some (sym same)) in ap₂ (λ x xs. x ∷ xs) keys.1 (by list other before behind keys.0 h k)
