-- Sets of stamped numbers, emptied and with one more.
use Rattle.std.proofs.Common.{◌≡◌, ◌⊎◌, refl, sym, ◌∙◌, ap, ap₂, subst, inl, inr, ⊎_elim, arith, ℕ, zero, suc, ◌+◌, ◌<◌, ◌≤◌, Bool, true, false, not, List, [], ◌∷◌, length, replicate, Option, Some, None, nat_eq, Decides, slice_get, slice_set}
use Rattle.std.proofs.lemmas.Bool.{false≢true, cases_eq}
use Rattle.std.proofs.lemmas.Bool.Decides.{Decides-eqb}
use Rattle.std.proofs.lemmas.List.{length-set}
use Rattle.std.proofs.lemmas.Option.{none-some, same_Some, slice_get_past}
use Rattle.jr_places.specs.declared.stamps.Stamps.{Stamps}
use Rattle.jr_places.specs.Stamps.{is_now, is_stamped, IsStamping, IsEmptied, AddsStamp}

get_set_same : (xs : List ℕ) (i y : ℕ) → i < length xs → slice_get (slice_set xs i y) i ≡ Some y
get_set_same [] i y lt = absurd (omega arith)
get_set_same (x ∷ xs) zero y lt = refl
get_set_same (x ∷ xs) (suc i) y lt = get_set_same xs i y (omega arith)

get_set_other : (xs : List ℕ) (i j y : ℕ) → (i ≡ j → ⊥) → slice_get (slice_set xs i y) j ≡ slice_get xs j
get_set_other [] i j y apart = refl
get_set_other (x ∷ xs) zero zero y apart = absurd (apart refl)
get_set_other (x ∷ xs) zero (suc j) y apart = refl
get_set_other (x ∷ xs) (suc i) zero y apart = refl
get_set_other (x ∷ xs) (suc i) (suc j) y apart = get_set_other xs i j y (λ e. apart (ap suc e))

get_replicate : (n i v w : ℕ) → slice_get (replicate n v) i ≡ Some w → v ≡ w
get_replicate zero i v w e = absurd (none-some w e)
get_replicate (suc n) zero v w e = same_Some v w e
get_replicate (suc n) (suc i) v w e = get_replicate n i v w e

length_replicate : (n v : ℕ) → length (replicate n v) ≡ n
length_replicate zero v = refl
length_replicate (suc n) v = ap suc (length_replicate n v)

later : (round : ℕ) (o : Option ℕ) → ((stamp : ℕ) → o ≡ Some stamp → stamp < round) → is_now round o ≡ false
later round None less = refl
later round (Some stamp) less = by (nat_eq stamp round) refl
  where
    by : (b : Bool) → nat_eq stamp round ≡ b → b ≡ false
    by true e = let lt = less stamp refl in let same = (Decides-eqb stamp round).0 e in absurd (omega arith)
    by false e = refl

pub emptied_new : (stamps : Stamps) (bound : ℕ) → stamps.stamps.items ≡ replicate bound 0 → stamps.round ≡ 1 → IsEmptied stamps bound
emptied_new stamps bound items round = record {
  counted = record {
    size = ap length items ∙ length_replicate bound 0;
    past = λ n stamp e. let z = get_replicate bound n 0 stamp (sym (ap (λ xs. slice_get xs n) items) ∙ e) in omega arith;
  };
  none = λ n. later stamps.round (slice_get stamps.stamps.items n) (λ stamp e. let z = get_replicate bound n 0 stamp (sym (ap (λ xs. slice_get xs n) items) ∙ e) in omega arith);
}

pub emptied_next : (old new : Stamps) (bound : ℕ) → IsStamping old bound → new.stamps.items ≡ old.stamps.items → new.round ≡ old.round + 1 → IsEmptied new bound
emptied_next old new bound h items round = record {
  counted = record {
    size = ap length items ∙ h.size;
    past = λ n stamp e. let le = h.past n stamp (sym (ap (λ xs. slice_get xs n) items) ∙ e) in omega arith;
  };
  none = λ n. later new.round (slice_get new.stamps.items n) (λ stamp e. let le = h.past n stamp (sym (ap (λ xs. slice_get xs n) items) ∙ e) in omega arith);
}

-- a number past the bound is not put in
pub adds_past : (stamps : Stamps) (bound at : ℕ) → IsStamping stamps bound → length stamps.stamps.items ≤ at → AddsStamp stamps stamps bound at false
adds_past stamps bound at h past = record {
  counted = h;
  out = λ n e. inl e;
  kept = λ n e. e;
  was = λ lt e. let size = h.size in absurd (omega arith);
  new_one = λ e. absurd (false≢true e);
}

module _ (old new : Stamps) (bound at : ℕ) (h : IsStamping old bound) (inside : at < length old.stamps.items) (items : new.stamps.items ≡ slice_set old.stamps.items at old.round) (round : new.round ≡ old.round) where
  here : is_stamped new at ≡ true
  here = ap₂ is_now round (ap (λ xs. slice_get xs at) items ∙ get_set_same old.stamps.items at old.round inside) ∙ (Decides-eqb old.round old.round).1 refl

  other : (n : ℕ) → (at ≡ n → ⊥) → is_stamped new n ≡ is_stamped old n
  other n apart = ap₂ is_now round (ap (λ xs. slice_get xs n) items ∙ get_set_other old.stamps.items at n old.round apart)

  stamp_of : (n stamp : ℕ) → slice_get new.stamps.items n ≡ Some stamp → stamp ≤ new.round
  stamp_of n stamp e = ⊎_elim (λ same. let s = same_Some old.round stamp (sym (ap (λ xs. slice_get xs n) items ∙ subst (λ n. slice_get (slice_set old.stamps.items at old.round) n ≡ Some old.round) same (get_set_same old.stamps.items at old.round inside)) ∙ e) in omega arith)
      (λ apart. let le = h.past n stamp (sym (ap (λ xs. slice_get xs n) items ∙ get_set_other old.stamps.items at n old.round apart) ∙ e) in omega arith) (cases_eq at n)

  not_true : (b c : Bool) → b ≡ not c → b ≡ false → c ≡ true
  not_true b true e f = refl
  not_true b false e f = absurd (false≢true (sym f ∙ e))

  not_false : (b c : Bool) → b ≡ not c → b ≡ true → c ≡ false
  not_false b true e f = absurd (false≢true (sym e ∙ f))
  not_false b false e f = refl

  pub adds_at : (is_new : Bool) → is_new ≡ not (is_stamped old at) → AddsStamp old new bound at is_new
  adds_at is_new is = record {
    counted = record { size = ap length items ∙ length-set old.stamps.items at old.round ∙ h.size; past = stamp_of };
    out = λ n e. ⊎_elim (λ same. inr same) (λ apart. inl (sym (other n apart) ∙ e)) (cases_eq at n);
    kept = λ n e. ⊎_elim (λ same. subst (λ n. is_stamped new n ≡ true) same here) (λ apart. other n apart ∙ e) (cases_eq at n);
    was = λ lt e. not_true is_new (is_stamped old at) is e;
    new_one = λ e. (not_false is_new (is_stamped old at) is e, here);
  }
