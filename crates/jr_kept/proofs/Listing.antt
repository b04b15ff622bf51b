-- Lists under numbers, with one more item.
use Rattle.std.proofs.Common.{◌≡◌, ◌⊎◌, inl, inr, ⊎_elim, refl, sym, ◌∙◌, ap, subst, arith, ℕ, zero, suc, ◌+◌, ◌-◌, ◌<◌, ◌≤◌, Bool, true, false, if◌then◌else◌, List, [], ◌∷◌, ◌++◌, length, map, replicate, nat_lt, slice_index_or, slice_set}
use Rattle.std.specs.List.{Contains}
use Rattle.std.proofs.lemmas.Bool.{cases_lt}
use Rattle.std.proofs.lemmas.Bool.Decides.{Decides-ltb}
use Rattle.std.proofs.lemmas.List.Elements.{Contains-append_left, Contains-push, Contains-push_cases}
use Rattle.jr_kept.specs.declared.lists.Lists.{Lists}
use Rattle.jr_kept.specs.Listed.{put_at, list_at, under, lists_in, AreListed, IsListing}

pub set_put : {V : Type 0} (f : V → List ℕ) (all : List V) (place item : ℕ) (v w : V) → v ≡ slice_index_or all place v → place < length all → f w ≡ f v ++ item ∷ [] → map f (slice_set all place w) ≡ put_at (map f all) place item
set_put f [] place item v w e lt same = absurd (omega (arith, lt))
set_put f (x ∷ all) zero item v w e lt same = ap (λ ys. ys ∷ map f all) (same ∙ ap (λ u. f u ++ item ∷ []) e)
set_put f (x ∷ all) (suc place) item v w e lt same = ap (λ ys. f x ∷ ys) (set_put f all place item v w e (omega (arith, lt)) same)

pub put_past : {V : Type 0} (f : V → List ℕ) (all : List V) (place item : ℕ) → length all ≤ place → map f all ≡ put_at (map f all) place item
put_past f [] place item le = refl
put_past f (x ∷ all) zero item le = absurd (omega (arith, le))
put_past f (x ∷ all) (suc place) item le = ap (λ ys. f x ∷ ys) (put_past f all place item (omega (arith, le)))

-- ---- what stands in them

put_length : (all : List (List ℕ)) (place item : ℕ) → length (put_at all place item) ≡ length all
put_length [] place item = refl
put_length (xs ∷ all) zero item = refl
put_length (xs ∷ all) (suc place) item = ap suc (put_length all place item)

put_out : (all : List (List ℕ)) (place item n j : ℕ) → Contains (list_at (put_at all place item) n) j → Contains (list_at all n) j ⊎ ((n ≡ place) × (item ≡ j))
put_out [] place item n j h = inl h
put_out (xs ∷ all) zero item zero j h = ⊎_elim (λ old. inl old) (λ e. inr (refl, e)) (Contains-push_cases xs item j h)
put_out (xs ∷ all) zero item (suc n) j h = inl h
put_out (xs ∷ all) (suc place) item zero j h = inl h
put_out (xs ∷ all) (suc place) item (suc n) j h = ⊎_elim (λ old. inl old) (λ e. inr (ap suc e.0, e.1)) (put_out all place item n j h)

put_kept : (all : List (List ℕ)) (place item n j : ℕ) → Contains (list_at all n) j → Contains (list_at (put_at all place item) n) j
put_kept [] place item n j h = h
put_kept (xs ∷ all) zero item zero j h = Contains-append_left xs (item ∷ []) j h
put_kept (xs ∷ all) zero item (suc n) j h = h
put_kept (xs ∷ all) (suc place) item zero j h = h
put_kept (xs ∷ all) (suc place) item (suc n) j h = put_kept all place item n j h

put_here : (all : List (List ℕ)) (place item : ℕ) → place < length all → Contains (list_at (put_at all place item) place) item
put_here [] place item lt = absurd (omega (arith, lt))
put_here (xs ∷ all) zero item lt = Contains-push xs item
put_here (xs ∷ all) (suc place) item lt = put_here all place item (omega (arith, lt))

none_in : (j : ℕ) → Contains [] j → ⊥
none_in j h = absurd (omega (arith, h.1))

-- ---- under numbers

-- an item under a number stands in the list of its place
under_out : (all : List (List ℕ)) (first k j : ℕ) → Contains (under all first k) j → (n : ℕ) × (k ≡ first + n) × Contains (list_at all n) j
under_out all first k j h = by (nat_lt k first) (Decides-ltb k first).1 h
  where
    by : (b : Bool) → (k < first → b ≡ true) → Contains (if b then [] else list_at all (k - first)) j → (n : ℕ) × (k ≡ first + n) × Contains (list_at all n) j
    by true tells g = absurd (none_in j g)
    by false tells g = let le : first ≤ k = ⊎_elim (λ lt. absurd (false_true (tells lt))) (λ le. le) (cases_lt k first) in (k - first, omega (arith, le), g)
      where
        false_true : false ≡ true → ⊥
        false_true e = absurd (let f = e in cc)

under_into : (all : List (List ℕ)) (first n j : ℕ) → Contains (list_at all n) j → Contains (under all first (first + n)) j
under_into all first n j h = by (nat_lt (first + n) first) (Decides-ltb (first + n) first).0
  where
    same : n ≡ (first + n) - first
    same = omega arith

    by : (b : Bool) → (b ≡ true → first + n < first) → Contains (if b then [] else list_at all ((first + n) - first)) j
    by true tells = let lt = tells refl in absurd (omega (arith, lt))
    by false tells = subst (λ m. Contains (list_at all m) j) same h

listed_put : (all : List (List ℕ)) (first count : ℕ) (pairs : List (ℕ × ℕ)) (number item place : ℕ) → AreListed all first count pairs → number ≡ first + place → AreListed (put_at all place item) first count (pairs ++ (number, item) ∷ [])
listed_put all first count pairs number item place h at = record { size = put_length all place item ∙ h.size; only = only; every = every }
  where
    only : (k j : ℕ) → Contains (under (put_at all place item) first k) j → Contains (pairs ++ (number, item) ∷ []) (k, j)
    only k j c = let one = under_out (put_at all place item) first k j c in
        ⊎_elim (λ old. Contains-append_left pairs ((number, item) ∷ []) (k, j) (h.only k j (subst (λ m. Contains (under all first m) j) (sym one.1) (under_into all first one.0 j old))))
        (λ e. let n = e.0 in let k_is = one.1 in let same : number ≡ k = omega (arith, n, k_is, at) in subst (λ x. Contains (pairs ++ (number, item) ∷ []) x) (pair_is same e.1) (Contains-push pairs (number, item)))
        (put_out all place item one.0 j one.2)
      where
        pair_is : number ≡ k → item ≡ j → ◌≡◌ {A = ℕ × ℕ} (number, item) (k, j)
        pair_is a b = ap (λ m. (m, item)) a ∙ ap (λ m. (k, m)) b

    every : (k j : ℕ) → Contains (pairs ++ (number, item) ∷ []) (k, j) → first ≤ k → k < first + count → Contains (under (put_at all place item) first k) j
    every k j c le lt = ⊎_elim
        (λ old. let one = under_out all first k j (h.every k j old le lt) in subst (λ m. Contains (under (put_at all place item) first m) j) (sym one.1) (under_into (put_at all place item) first one.0 j (put_kept all place item one.0 j one.2)))
        (λ e. let a : number ≡ k = ap (λ x. x.0) e in let b : item ≡ j = ap (λ x. x.1) e in let size = h.size in
        subst (λ m. Contains (under (put_at all place item) first m) j) (sym at ∙ a) (under_into (put_at all place item) first place j (subst (λ m. Contains (list_at (put_at all place item) place) m) b (put_here all place item (omega (arith, lt, at, a, size))))))
        (Contains-push_cases pairs (number, item) (k, j) c)

listed_left : (all : List (List ℕ)) (first count : ℕ) (pairs : List (ℕ × ℕ)) (number item : ℕ) → AreListed all first count pairs → number < first → AreListed all first count (pairs ++ (number, item) ∷ [])
listed_left all first count pairs number item h below = record {
  size = h.size;
  only = λ k j c. Contains-append_left pairs ((number, item) ∷ []) (k, j) (h.only k j c);
  every = λ k j c le lt. ⊎_elim (λ old. h.every k j old le lt) (λ e. let a : number ≡ k = ap (λ x. x.0) e in absurd (omega (arith, le, below, a))) (Contains-push_cases pairs (number, item) (k, j) c);
}

pub listing_put : (old new : Lists) (first count : ℕ) (pairs : List (ℕ × ℕ)) (number item place : ℕ) → IsListing old first count pairs → new.first ≡ old.first → number ≡ old.first + place → lists_in new ≡ put_at (lists_in old) place item
    → IsListing new first count (pairs ++ (number, item) ∷ [])
listing_put old new first count pairs number item place h same at is = let begins = h.begins in record {
  begins = same ∙ h.begins;
  listed = subst (λ all. AreListed all first count (pairs ++ (number, item) ∷ [])) (sym is) (listed_put (lists_in old) first count pairs number item place h.listed (omega (arith, at, begins)));
}

pub listing_left : (old : Lists) (first count : ℕ) (pairs : List (ℕ × ℕ)) (number item : ℕ) → IsListing old first count pairs → number < old.first → IsListing old first count (pairs ++ (number, item) ∷ [])
listing_left old first count pairs number item h below = let begins = h.begins in record { begins = h.begins; listed = listed_left (lists_in old) first count pairs number item h.listed (omega (arith, below, begins)) }

-- ---- empty lists

empty_length : (count : ℕ) → length {A = List ℕ} (replicate count []) ≡ count
empty_length zero = refl
empty_length (suc count) = ap suc (empty_length count)

empty_at : (count n j : ℕ) → Contains (list_at (replicate count []) n) j → ⊥
empty_at zero n j h = none_in j h
empty_at (suc count) zero j h = none_in j h
empty_at (suc count) (suc n) j h = empty_at count n j h

pub listing_none : (lists : Lists) (first count : ℕ) → lists.first ≡ first → lists_in lists ≡ replicate count [] → IsListing lists first count []
listing_none lists first count begins is = record {
  begins = begins;
  listed = record {
    size = ap length is ∙ empty_length count;
    only = λ k j c. let one = under_out (lists_in lists) first k j c in absurd (empty_at count one.0 j (subst (λ all. Contains (list_at all one.0) j) is one.2));
    every = λ k j c le lt. absurd (omega (arith, c.1));
  };
}
