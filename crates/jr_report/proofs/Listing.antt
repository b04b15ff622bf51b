-- Lists of the numbers that are such, as they rise.
use Rattle.std.proofs.Common.{◌≡◌, ◌⊎◌, refl, sym, subst, ⊎_elim, inl, inr, arith, ℕ, ◌+◌, ◌<◌, ◌≤◌, Bool, true, false, List, [], ◌∷◌, ◌++◌, length, nat_eq, Decides, get_or, length-append}
use Rattle.std.specs.List.Sorted.{IsStrictlyIncreasing}
use Rattle.std.proofs.Math.Seq.{get_or-append_seam}
use Rattle.std.proofs.lemmas.Bool.{false≢true, or_cases, or_left, cases_lt}
use Rattle.std.proofs.lemmas.Bool.Decides.{Decides-eqb}
use Rattle.std.proofs.lemmas.List.{get_or_append_left}
use Rattle.jr_plain.specs.Search.{has, Lists}
use Rattle.jr_plain.proofs.Searches.{among_append}
use Rattle.jr_plain.proofs.Tests.{like, never}
use Rattle.jr_supers.specs.Supers.{ListsOnce}
use Rattle.jr_report.specs.Listed.{with_such}

-- the list has each number below n that is such once, as they rise
pub record IsListing (P : ℕ → Type 0) (n : ℕ) (all : List ℕ) : Type 0 where
  pub rises : IsStrictlyIncreasing all
  pub has : Lists all (λ k. (k < n) × P k)
  pub below : (i : ℕ) → i < length all → get_or all i 0 < n

longer : (all : List ℕ) (n : ℕ) → length (all ++ n ∷ []) ≡ length all + 1
longer all n = length-append all (n ∷ [])

-- numbers rise with a higher one behind them
risen : (all : List ℕ) (n k : ℕ) → IsStrictlyIncreasing all → ((i : ℕ) → i < length all → get_or all i 0 < n) → k + 1 < length all + 1 → get_or (all ++ n ∷ []) k 0 < get_or (all ++ n ∷ []) (k + 1) 0
risen all n k rises below lt =
    let here : get_or (all ++ n ∷ []) k 0 ≡ get_or all k 0 = get_or_append_left all (n ∷ []) 0 k (omega (arith, lt)) in
    ⊎_elim (λ (more : k + 1 < length all). let next : get_or (all ++ n ∷ []) (k + 1) 0 ≡ get_or all (k + 1) 0 = get_or_append_left all (n ∷ []) 0 (k + 1) more in
    let up = rises k more in omega (arith, here, next, up))
    (λ (le : length all ≤ k + 1). let last : length all ≡ k + 1 = omega (arith, lt, le) in
    let next : get_or (all ++ n ∷ []) (k + 1) 0 ≡ n = subst (λ j. get_or (all ++ n ∷ []) j 0 ≡ n) last (get_or-append_seam all n [] 0) in
    let up = below k (omega (arith, lt)) in omega (arith, here, next, up))
    (cases_lt (k + 1) (length all))

under : (all : List ℕ) (n i : ℕ) → ((i : ℕ) → i < length all → get_or all i 0 < n) → i < length all + 1 → get_or (all ++ n ∷ []) i 0 < n + 1
under all n i below lt =
    ⊎_elim (λ (more : i < length all). let here : get_or (all ++ n ∷ []) i 0 ≡ get_or all i 0 = get_or_append_left all (n ∷ []) 0 i more in
    let up = below i more in omega (arith, here, up))
    (λ (le : length all ≤ i). let last : length all ≡ i = omega (arith, lt, le) in
    let here : get_or (all ++ n ∷ []) i 0 ≡ n = subst (λ j. get_or (all ++ n ∷ []) j 0 ≡ n) last (get_or-append_seam all n [] 0) in omega (arith, here))
    (cases_lt i (length all))

module _ (P : ℕ → Type 0) where
  listing_none : IsListing P 0 []
  listing_none = record {
    rises = λ k lt. absurd (omega (arith, lt));
    has = λ k. like never (λ h. absurd h) (λ h. let lt = h.0 in absurd (omega (arith, lt)));
    below = λ i lt. absurd (omega (arith, lt));
  }

  pub listing_start : (all : List ℕ) → all ≡ [] → IsListing P 0 all
  listing_start all none = subst (IsListing P 0) (sym none) listing_none

  out_of : (n k : ℕ) (all : List ℕ) → Lists all (λ k. (k < n) × P k) → P n → (has all k ≡ true) ⊎ (has (n ∷ []) k ≡ true) → (k < n + 1) × P k
  out_of n k all lists such (inl h) = let w = (lists k).0 h in let lt = w.0 in (omega (arith, lt), w.1)
  out_of n k all lists such (inr h) = let e : n ≡ k = ⊎_elim (λ s. (Decides-eqb n k).0 s) (λ f. absurd (false≢true f)) (or_cases (nat_eq n k) false h) in (omega (arith, e), subst P e such)

  into : (n k : ℕ) (all : List ℕ) → Lists all (λ k. (k < n) × P k) → (k < n + 1) × P k → (has all k ≡ true) ⊎ (has (n ∷ []) k ≡ true)
  into n k all lists w = let lt = w.0 in ⊎_elim (λ less. inl ((lists k).1 (less, w.1))) (λ le. inr (or_left (nat_eq n k) false ((Decides-eqb n k).1 (omega (arith, lt, le))))) (cases_lt k n)

  listing_pushed : (n : ℕ) (all : List ℕ) → IsListing P n all → P n → IsListing P (n + 1) (all ++ n ∷ [])
  listing_pushed n all is such = let long = longer all n in record {
    rises = λ k lt. risen all n k is.rises is.below (omega (arith, lt, long));
    has = λ k. like (among_append nat_eq Decides-eqb all (n ∷ []) k) (out_of n k all is.has such) (into n k all is.has);
    below = λ i lt. under all n i is.below (omega (arith, lt, long));
  }

  not_last : (n k : ℕ) → (P n → ⊥) → P k → k < n + 1 → k < n
  not_last n k never such lt = ⊎_elim (λ less. less) (λ le. absurd (never (subst P (omega (arith, lt, le)) such))) (cases_lt k n)

  listing_kept : (n : ℕ) (all : List ℕ) → IsListing P n all → (P n → ⊥) → IsListing P (n + 1) all
  listing_kept n all is never = record {
    rises = is.rises;
    has = λ k. like (is.has k) (λ w. let lt = w.0 in (omega (arith, lt), w.1)) (λ w. (not_last n k never w.1 w.0, w.1));
    below = λ i lt. let up = is.below i lt in omega (arith, up);
  }

  listing_by : (n : ℕ) (all : List ℕ) (is : Bool) → IsListing P n all → Decides is (P n) → IsListing P (n + 1) (with_such is n all)
  listing_by n all true h d = listing_pushed n all h (d.0 refl)
  listing_by n all false h d = listing_kept n all h (λ such. false≢true (d.1 such))

  pub listing_more : (n : ℕ) (all new : List ℕ) (is : Bool) → IsListing P n all → Decides is (P n) → new ≡ with_such is n all → IsListing P (n + 1) new
  listing_more n all new is h d made = subst (IsListing P (n + 1)) (sym made) (listing_by n all is h d)

  pub listing_whole : (n len : ℕ) (all : List ℕ) → IsListing P n all → len ≤ n → ((k : ℕ) → P k → k < len) → ListsOnce all P
  listing_whole n len all is le within = record {
    rises = is.rises;
    has = λ k. like (is.has k) (λ w. w.1) (λ such. let lt = within k such in (omega (arith, lt, le), such));
  }
