-- What searches find.
use Rattle.std.proofs.Common.{le_antisymm, le_of_eq, ◌≡◌, ◌⊎◌, refl, sym, ◌∙◌, ap, subst, inl, inr, ⊎_elim, arith, ℕ, zero, suc, ◌≤◌, ◌<◌, Bool, true, false, if◌then◌else◌, ◌&&◌, ◌||◌, List, [], ◌∷◌, ◌++◌, filter, flat_map, Option, Some, None, nat_eq, Decides, MatchOption}
use Rattle.std.specs.List.{list_any, list_all}
use Rattle.std.specs.Option.{option_or}
use Rattle.std.proofs.lemmas.Bool.{false≢true, cases_lt, cases_eq, or_cases, or_left, or_right}
use Rattle.std.proofs.lemmas.Bool.Decides.{Decides-at, Decides-eqb}
use Rattle.std.proofs.lemmas.List.Folds.{list_any-append}
use Rattle.std.proofs.lemmas.Map.Views.{any-filter_same}
use Rattle.std.proofs.lemmas.Option.{none-some, same_Some}
use Rattle.jr_plain.specs.Search.{any_below, all_below, first_below, last_below, all_such, gathered, IsFirst, IsLast, among, has, Lists, Finds}
use Rattle.jr_plain.proofs.Tests.{itself, like, both, either, never}

-- ---- below a number

module _ (test : ℕ → Bool) (P : ℕ → Type 0) (tells : (k : ℕ) → Decides (test k) (P k)) where
  turned : {A B : Type 0} → A ⊎ B → B ⊎ A
  turned (inl a) = inr a
  turned (inr b) = inl b

  one_more : (n : ℕ) → ((k : ℕ) × (k < n) × P k) ⊎ P n → (k : ℕ) × (k < suc n) × P k
  one_more n (inl h) = let lt = h.1 in (h.0, omega arith, h.2)
  one_more n (inr h) = (n, omega arith, h)

  which : (n : ℕ) → (k : ℕ) × (k < suc n) × P k → ((k : ℕ) × (k < n) × P k) ⊎ P n
  which n h = let lt = h.1 in ⊎_elim (λ e. inr (subst P e h.2)) (λ apart. inl (h.0, omega arith, h.2)) (cases_eq h.0 n)

  pub any : (n : ℕ) → Decides (any_below n test) ((k : ℕ) × (k < n) × P k)
  any zero = (λ h. absurd (false≢true h), λ h. let lt = h.1 in absurd (omega arith))
  any (suc n) = like (either (any n) (tells n)) (one_more n) (which n)

  each : (n : ℕ) → ((k : ℕ) → k < n → P k) × P n → (k : ℕ) → k < suc n → P k
  each n h k lt = ⊎_elim (λ e. subst P (sym e) h.1) (λ apart. h.0 k (omega arith)) (cases_eq k n)

  pub all : (n : ℕ) → Decides (all_below n test) ((k : ℕ) → k < n → P k)
  all zero = (λ h k lt. absurd (omega arith), λ h. refl)
  all (suc n) = like (both (all n) (tells n)) (each n) (λ h. (λ k lt. h k (omega arith), h n (omega arith)))

  -- where only numbers below n are such
  pub some : (n : ℕ) → ((k : ℕ) → P k → k < n) → Decides (any_below n test) ((k : ℕ) × P k)
  some n within = like (any n) (λ h. (h.0, h.2)) (λ h. (h.0, within h.0 h.1, h.1))

-- each number is such, where those from n on are
pub every : {P : ℕ → Type 0} (n : ℕ) (test : ℕ → Bool) → ((k : ℕ) → Decides (test k) (P k)) → ((k : ℕ) → n ≤ k → P k) → Decides (all_below n test) ((k : ℕ) → P k)
every {P} n test tells past = like (all test P tells n) (λ h k. ⊎_elim (λ lt. h k lt) (λ le. past k le) (cases_lt k n)) (λ h k lt. h k)

-- ---- lists

module _ {A : Type 0} (same : A → A → Bool) (tells : (a b : A) → Decides (same a b) (a ≡ b)) where
  -- an item passes a test
  pub some_item : (test : A → Bool) (xs : List A) → Decides (list_any test xs) ((x : A) × (among same xs x ≡ true) × (test x ≡ true))
  some_item test [] = (λ h. absurd (false≢true h), λ h. absurd (false≢true h.1))
  some_item test (y ∷ ys) = like (either (itself (test y)) (some_item test ys)) out into
    where
      out : (test y ≡ true) ⊎ ((x : A) × (among same ys x ≡ true) × (test x ≡ true)) → (x : A) × (among same (y ∷ ys) x ≡ true) × (test x ≡ true)
      out (inl e) = (y, or_left (same y y) (among same ys y) ((tells y y).1 refl), e)
      out (inr h) = (h.0, or_right (same y h.0) (among same ys h.0) h.1, h.2)

      into : (x : A) × (among same (y ∷ ys) x ≡ true) × (test x ≡ true) → (test y ≡ true) ⊎ ((x : A) × (among same ys x ≡ true) × (test x ≡ true))
      into h = ⊎_elim (λ s. inl (subst (λ z. test z ≡ true) (sym ((tells y h.0).0 s)) h.2)) (λ r. inr (h.0, r, h.2)) (or_cases (same y h.0) (among same ys h.0) h.1)

  -- each item passes a test
  pub every_item : (test : A → Bool) (xs : List A) → Decides (list_all test xs) ((x : A) → among same xs x ≡ true → test x ≡ true)
  every_item test [] = (λ h x at. absurd (false≢true at), λ h. refl)
  every_item test (y ∷ ys) = like (both (itself (test y)) (every_item test ys)) out into
    where
      out : (test y ≡ true) × ((x : A) → among same ys x ≡ true → test x ≡ true) → (x : A) → among same (y ∷ ys) x ≡ true → test x ≡ true
      out h x at = ⊎_elim (λ e. subst (λ z. test z ≡ true) ((tells y x).0 e) h.0) (λ k. h.1 x k) (or_cases (same y x) (among same ys x) at)

      into : ((x : A) → among same (y ∷ ys) x ≡ true → test x ≡ true) → (test y ≡ true) × ((x : A) → among same ys x ≡ true → test x ≡ true)
      into h = (h y (or_left (same y y) (among same ys y) ((tells y y).1 refl)), λ x at. h x (or_right (same y x) (among same ys x) at))

  pub among_filter : (test : A → Bool) (xs : List A) (x : A) → Decides (among same (filter test xs) x) ((among same xs x ≡ true) × (test x ≡ true))
  among_filter test xs x = Decides-at (among same (filter test xs) x) (test x && among same xs x) (any-filter_same (λ y. same y x) test (test x) (λ y e. ap test ((tells y x).0 e)) xs)
      (like (both (itself (test x)) (itself (among same xs x))) (λ h. (h.1, h.0)) (λ h. (h.1, h.0)))

  pub among_append : (xs ys : List A) (x : A) → Decides (among same (xs ++ ys) x) ((among same xs x ≡ true) ⊎ (among same ys x ≡ true))
  among_append xs ys x = Decides-at (among same (xs ++ ys) x) (among same xs x || among same ys x) (list_any-append (λ y. same y x) xs ys) (either (itself (among same xs x)) (itself (among same ys x)))

  -- an item of one of the lists
  pub gathered_tells : (of : ℕ → List A) (n : ℕ) (x : A) → Decides (among same (gathered n of) x) ((k : ℕ) × (k < n) × (among same (of k) x ≡ true))
  gathered_tells of zero x = like never (λ h. absurd h) (λ h. let lt = h.1 in absurd (omega arith))
  gathered_tells of (suc n) x = Decides-at _ _ (list_any-append (λ y. same y x) (gathered n of) (of n)) (like (either (gathered_tells of n x) (itself (among same (of n) x))) out into)
    where
      out : ((k : ℕ) × (k < n) × (among same (of k) x ≡ true)) ⊎ (among same (of n) x ≡ true) → (k : ℕ) × (k < suc n) × (among same (of k) x ≡ true)
      out (inl h) = let lt = h.1 in (h.0, omega arith, h.2)
      out (inr h) = (n, omega arith, h)

      into : (k : ℕ) × (k < suc n) × (among same (of k) x ≡ true) → ((k : ℕ) × (k < n) × (among same (of k) x ≡ true)) ⊎ (among same (of n) x ≡ true)
      into h = let lt = h.1 in ⊎_elim (λ e. inr (subst (λ k. among same (of k) x ≡ true) e h.2)) (λ apart. inl (h.0, omega arith, h.2)) (cases_eq h.0 n)

  -- items that a test lets through
  pub if_tells : {P : Type 0} (b : Bool) → Decides b P → (xs : List A) (x : A) → Decides (among same (if b then xs else []) x) (P × (among same xs x ≡ true))
  if_tells true d xs x = (λ h. (d.0 refl, h), λ h. h.1)
  if_tells false d xs x = like never (λ h. absurd h) (λ h. false≢true (d.1 h.0))

-- the numbers that pass, below n
last_such : (b : Bool) (n k : ℕ) → Decides (has (if b then n ∷ [] else []) k) ((n ≡ k) × (b ≡ true))
last_such true n k = like (either (Decides-eqb n k) never) (⊎_elim (λ e. (e, refl)) (λ h. absurd h)) (λ h. inl h.0)
last_such false n k = like never (λ h. absurd h) (λ h. absurd (false≢true h.1))

such_out : (test : ℕ → Bool) (n k : ℕ) → ((k < n) × (test k ≡ true)) ⊎ ((n ≡ k) × (test n ≡ true)) → (k < suc n) × (test k ≡ true)
such_out test n k (inl h) = let lt = h.0 in (omega arith, h.1)
such_out test n k (inr h) = let e = h.0 in (omega arith, subst (λ j. test j ≡ true) e h.1)

such_into : (test : ℕ → Bool) (n k : ℕ) → (k < suc n) × (test k ≡ true) → ((k < n) × (test k ≡ true)) ⊎ ((n ≡ k) × (test n ≡ true))
such_into test n k h = let lt = h.0 in ⊎_elim (λ e. inr (e, subst (λ j. test j ≡ true) (sym e) h.1)) (λ apart. inl (omega arith, h.1)) (cases_eq n k)

pub such : (test : ℕ → Bool) (n : ℕ) → Lists (all_such n test) (λ k. (k < n) × (test k ≡ true))
such test zero k = like never (λ h. absurd h) (λ h. let lt = h.0 in absurd (omega arith))
such test (suc n) k = Decides-at _ _ (list_any-append (λ j. nat_eq j k) (all_such n test) (if test n then n ∷ [] else []))
    (like (either (such test n k) (last_such (test n) n k)) (such_out test n k) (such_into test n k))

module _ (test : ℕ → Bool) (P : ℕ → Type 0) (tells : (k : ℕ) → Decides (test k) (P k)) where
  -- where only numbers below n are such
  pub lists : (n : ℕ) → ((k : ℕ) → P k → k < n) → Lists (all_such n test) P
  lists n within k = like (such test n k) (λ h. (tells k).0 h.1) (λ h. (within k h, (tells k).1 h))

  -- an item that is such
  pub some_of : {Q : ℕ → Type 0} (items : List ℕ) → Lists items Q → Decides (list_any test items) ((k : ℕ) × Q k × P k)
  some_of items holds = like (some_item nat_eq Decides-eqb test items) (λ h. (h.0, (holds h.0).0 h.1, (tells h.0).0 h.2)) (λ h. (h.0, (holds h.0).1 h.1, (tells h.0).1 h.2))

  -- each item is such
  pub every_of : {Q : ℕ → Type 0} (items : List ℕ) → Lists items Q → Decides (list_all test items) ((k : ℕ) → Q k → P k)
  every_of items holds = like (every_item nat_eq Decides-eqb test items) (λ h k q. (tells k).0 (h k ((holds k).1 q))) (λ h k at. (tells k).1 (h k ((holds k).0 at)))

  abbrev Found : (ℕ → ℕ → Type 0) → ℕ → Option ℕ → Type 0
  Found Is n found = MatchOption found ((k : ℕ) → k < n → P k → ⊥) (λ k. Is n k)

  found_one : (Is : ℕ → ℕ → Type 0) → ((n k : ℕ) → Is n k → (k < n) × P k) → ((n j k : ℕ) → Is n j → Is n k → j ≡ k) → (n : ℕ) (found : Option ℕ) → Found Is n found → Finds found (Is n)
  found_one Is such one n None h k = (λ e. absurd (none-some k e), λ i. let w = such n k i in absurd (h k w.0 w.1))
  found_one Is such one n (Some j) h k = (λ e. subst (Is n) (same_Some _ _ e) h, λ i. ap Some (one n j k h i))

  none_more : (n : ℕ) → Decides false (P n) → ((k : ℕ) → k < n → P k → ⊥) → (k : ℕ) → k < suc n → P k → ⊥
  none_more n d h k lt p = ⊎_elim (λ e. false≢true (d.1 (subst P e p))) (λ apart. h k (omega arith) p) (cases_eq k n)

  first_more : (n : ℕ) (before : Option ℕ) (b : Bool) → Found (IsFirst P) n before → Decides b (P n) → Found (IsFirst P) (suc n) (option_or before (if b then Some n else None))
  first_more n (Some k) b h d = let lt = h.0 in (omega arith, h.1, h.2)
  first_more n None true h d = (omega arith, d.0 refl, λ j p. ⊎_elim (λ lt. absurd (h j lt p)) (λ le. le) (cases_lt j n))
  first_more n None false h d = none_more n d h

  first_found : (n : ℕ) → Found (IsFirst P) n (first_below n test)
  first_found zero = λ k lt p. absurd (omega arith)
  first_found (suc n) = first_more n (first_below n test) (test n) (first_found n) (tells n)

  pub finds_first : (n : ℕ) → Finds (first_below n test) (IsFirst P n)
  finds_first n = found_one (IsFirst P) (λ n k i. (i.0, i.1)) (λ n j k a b. le_antisymm (a.2 k b.1) (b.2 j a.1)) n (first_below n test) (first_found n)

  -- the one that is such
  pub finds : (n : ℕ) → ((k : ℕ) → P k → k < n) → ((j k : ℕ) → P j → P k → j ≡ k) → Finds (first_below n test) P
  finds n within one k = (λ e. ((finds_first n k).0 e).1, λ p. (finds_first n k).1 (within k p, p, λ j h. le_of_eq (one k j p h)))

  last_more : (n : ℕ) (before : Option ℕ) (b : Bool) → Found (IsLast P) n before → Decides b (P n) → Found (IsLast P) (suc n) (if b then Some n else before)
  last_more n before true h d = (omega arith, d.0 refl, λ j lt p. omega arith)
  last_more n (Some k) false h d = let lt = h.0 in (omega arith, h.1, λ j lt p. ⊎_elim (λ e. absurd (false≢true (d.1 (subst P e p)))) (λ apart. h.2 j (omega arith) p) (cases_eq j n))
  last_more n None false h d = none_more n d h

  last_found : (n : ℕ) → Found (IsLast P) n (last_below n test)
  last_found zero = λ k lt p. absurd (omega arith)
  last_found (suc n) = last_more n (last_below n test) (test n) (last_found n) (tells n)

  pub finds_last : (n : ℕ) → Finds (last_below n test) (IsLast P n)
  finds_last n = found_one (IsLast P) (λ n k i. (i.0, i.1)) (λ n j k a b. le_antisymm (b.2 j a.0 a.1) (a.2 k b.0 b.1)) n (last_below n test) (last_found n)

-- an item of one of the lists that the items of a list have
module _ {A : Type 0} (same : A → A → Bool) where
  pub any_flat : {B : Type 0} (f : B → List A) (items : List B) (y : A) → among same (flat_map f items) y ≡ list_any (λ x. among same (f x) y) items
  any_flat f [] y = refl
  any_flat f (x ∷ xs) y = list_any-append (λ z. same z y) (f x) (flat_map f xs) ∙ ap (λ b. among same (f x) y || b) (any_flat f xs y)

  pub flat_of : {Q : ℕ → Type 0} (f : ℕ → List A) (items : List ℕ) → Lists items Q → (y : A) → Decides (among same (flat_map f items) y) ((x : ℕ) × Q x × (among same (f x) y ≡ true))
  flat_of f items holds y = Decides-at _ _ (any_flat f items y)
      (some_of (λ x. among same (f x) y) (λ x. among same (f x) y ≡ true) (λ x. itself (among same (f x) y)) items holds)
