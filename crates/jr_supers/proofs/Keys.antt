-- Pairs under keys, and lists of what they have.
use Rattle.std.proofs.Common.{◌≡◌, ◌⊎◌, refl, sym, ◌∙◌, ap, ap₂, subst, inl, inr, ⊎_elim, arith, ℕ, zero, suc, ◌<◌, Bool, true, false, not, cond, ◌&&◌, ◌||◌, List, [], ◌∷◌, ◌++◌, map, length, length-append, Option, Some, is_some, nat_eq, Decides}
use Rattle.std.proofs.lemmas.Bool.{false≢true, or_left, or_right, or_cases, and_from, and_parts}
use Rattle.std.proofs.lemmas.Bool.Decides.{Decides-eqb}
use Rattle.std.proofs.lemmas.List.{length-map}
use Rattle.std.proofs.Math.Seq.{get_or-append_seam}
use Rattle.std.proofs.Math.ListN.{get_or-append}
use Rattle.jr_plain.specs.Search.{has, last_below}
use Rattle.jr_places.specs.declared.chains.Entry.{Entry}
use Rattle.jr_places.specs.Chains.{entry_at, last_under, rows_under}
use Rattle.jr_supers.specs.Pairs.{lowered, has_pair, uppers, with_pair, with_pairs}
use Rattle.jr_supers.specs.Above.{is_some_item}

lowered_at : (all : List Entry) (n : ℕ) → entry_at (map lowered all) n ≡ lowered (entry_at all n)
lowered_at [] n = refl
lowered_at (e ∷ all) zero = refl
lowered_at (e ∷ all) (suc n) = lowered_at all n

-- ---- what stands above a type is what it has a pair with

upper_step : (a b : Bool) (n row x : ℕ) (more : List ℕ) (before : Option ℕ) → (nat_eq row x ≡ b) → has more x ≡ is_some before → has (cond (a && true) (row ∷ more) more) x ≡ is_some (cond (a && b) (Some n) before)
upper_step true true n row x more before e h = ap (λ b. b || has more x) e
upper_step true false n row x more before e h = ap (λ b. b || has more x) e ∙ h
upper_step false b n row x more before e h = h

uppers_to : (all : List Entry) (c x n : ℕ) → has (rows_under (map lowered all) c 0 n) x ≡ is_some (last_under all c x n)
uppers_to all c x zero = refl
uppers_to all c x (suc n) = ap (λ e. has (cond (nat_eq e.first c && nat_eq e.second 0) (e.row ∷ rows_under (map lowered all) c 0 n) (rows_under (map lowered all) c 0 n)) x) (lowered_at all n)
    ∙ upper_step (nat_eq (entry_at all n).first c) (nat_eq (entry_at all n).second x) n (entry_at all n).second x (rows_under (map lowered all) c 0 n) (last_under all c x n) refl (uppers_to all c x n)

pub uppers_tell : (all : List Entry) (c x : ℕ) → has (uppers all c) x ≡ has_pair all c x
uppers_tell all c x = ap (λ n. has (rows_under (map lowered all) c 0 n) x) (length-map all lowered) ∙ uppers_to all c x (length all)

-- ---- one pair more

last_same : (f g : ℕ → Bool) (n : ℕ) → ((k : ℕ) → k < n → f k ≡ g k) → last_below n f ≡ last_below n g
last_same f g zero same = refl
last_same f g (suc n) same = ap₂ (λ b before. cond b (Some n) before) (same n (omega arith)) (last_same f g n (λ k lt. same k (omega arith)))

module _ (all : List Entry) (e : Entry) where
  kept : (k : ℕ) → k < length all → entry_at (all ++ e ∷ []) k ≡ entry_at all k
  kept k lt = get_or-append all (e ∷ []) (record { first = 0; second = 0; row = 0 }) k lt

  new : entry_at (all ++ e ∷ []) (length all) ≡ e
  new = get_or-append_seam all e [] (record { first = 0; second = 0; row = 0 })

  one_more : length (all ++ e ∷ []) ≡ suc (length all)
  one_more = let s = length-append all (e ∷ []) in omega arith

  some_of : (b : Bool) (n : ℕ) (before : Option ℕ) → is_some (cond b (Some n) before) ≡ (b || is_some before)
  some_of true n before = refl
  some_of false n before = refl

  pub pair_pushed : (c x : ℕ) → has_pair (all ++ e ∷ []) c x ≡ ((nat_eq e.first c && nat_eq e.second x) || has_pair all c x)
  pair_pushed c x = ap (λ n. is_some (last_under (all ++ e ∷ []) c x n)) one_more
      ∙ ap₂ (λ b before. is_some (cond b (Some (length all)) before)) (ap (λ e. nat_eq e.first c && nat_eq e.second x) new)
      (last_same _ _ (length all) (λ k lt. ap (λ e. nat_eq e.first c && nat_eq e.second x) (kept k lt)))
      ∙ some_of (nat_eq e.first c && nat_eq e.second x) (length all) (last_under all c x (length all))

-- a pair is one of them, or the new one
abbrev pub HasOr : List Entry → ℕ → (ℕ → Type 0) → ℕ → ℕ → Type 0
HasOr all low P c x = (has_pair all c x ≡ true) ⊎ ((low ≡ c) × P x)

pair_tells : (all : List Entry) (low high c x : ℕ) (b : Bool) → has_pair all low high ≡ b
    → Decides (has_pair (cond b all (all ++ record { first = low; second = high; row = high } ∷ [])) c x) (HasOr all low (λ y. high ≡ y) c x)
pair_tells all low high c x true there = (λ h. inl h, ⊎_elim (λ h. h) (λ h. subst (λ y. has_pair all c y ≡ true) h.1 (subst (λ d. has_pair all d high ≡ true) h.0 there)))
pair_tells all low high c x false there = (out, into)
  where
    is : has_pair (all ++ record { first = low; second = high; row = high } ∷ []) c x ≡ ((nat_eq low c && nat_eq high x) || has_pair all c x)
    is = pair_pushed all (record { first = low; second = high; row = high }) c x

    out : has_pair (all ++ record { first = low; second = high; row = high } ∷ []) c x ≡ true → HasOr all low (λ y. high ≡ y) c x
    out h = ⊎_elim (λ k. let both = and_parts (nat_eq low c) (nat_eq high x) k in inr ((Decides-eqb low c).0 both.0, (Decides-eqb high x).0 both.1)) (λ k. inl k)
        (or_cases (nat_eq low c && nat_eq high x) (has_pair all c x) (sym is ∙ h))

    into : HasOr all low (λ y. high ≡ y) c x → has_pair (all ++ record { first = low; second = high; row = high } ∷ []) c x ≡ true
    into k = is ∙ ⊎_elim (λ h. or_right (nat_eq low c && nat_eq high x) (has_pair all c x) h)
        (λ h. or_left (nat_eq low c && nat_eq high x) (has_pair all c x) (and_from (nat_eq low c) (nat_eq high x) ((Decides-eqb low c).1 h.0) ((Decides-eqb high x).1 h.1))) k

with_pair_tells : (all : List Entry) (low high c x : ℕ) → Decides (has_pair (with_pair all low high) c x) (HasOr all low (λ y. high ≡ y) c x)
with_pair_tells all low high c x = pair_tells all low high c x (has_pair all low high) refl

pub with_pairs_tell : (all : List Entry) (low : ℕ) (highs : List ℕ) (c x : ℕ) → Decides (has_pair (with_pairs all low highs) c x) (HasOr all low (λ y. has highs y ≡ true) c x)
with_pairs_tell all low [] c x = (λ h. inl h, ⊎_elim (λ h. h) (λ h. absurd (false≢true h.1)))
with_pairs_tell all low (high ∷ more) c x = let rest = with_pairs_tell (with_pair all low high) low more c x in (λ h. out (rest.0 h), λ h. rest.1 (into h))
  where
    out : HasOr (with_pair all low high) low (λ y. has more y ≡ true) c x → HasOr all low (λ y. has (high ∷ more) y ≡ true) c x
    out = ⊎_elim (λ h. ⊎_elim (λ k. inl k) (λ k. inr (k.0, or_left (nat_eq high x) (has more x) ((Decides-eqb high x).1 k.1))) ((with_pair_tells all low high c x).0 h))
        (λ h. inr (h.0, or_right (nat_eq high x) (has more x) h.1))

    into : HasOr all low (λ y. has (high ∷ more) y ≡ true) c x → HasOr (with_pair all low high) low (λ y. has more y ≡ true) c x
    into = ⊎_elim (λ h. inl ((with_pair_tells all low high c x).1 (inl h)))
        (λ h. ⊎_elim (λ e. inl ((with_pair_tells all low high c x).1 (inr (h.0, (Decides-eqb high x).0 e)))) (λ k. inr (h.0, k)) (or_cases (nat_eq high x) (has more x) h.1))

-- ---- lists with and without items

pub item_in : (xs : List ℕ) (x : ℕ) → has xs x ≡ true → is_some_item xs ≡ true
item_in [] x h = absurd (false≢true h)
item_in (y ∷ ys) x h = refl

pub item_of : (xs : List ℕ) → is_some_item xs ≡ true → (x : ℕ) × (has xs x ≡ true)
item_of [] h = absurd (false≢true h)
item_of (y ∷ ys) h = (y, or_left (nat_eq y y) (has ys y) ((Decides-eqb y y).1 refl))

pub items_same : (xs ys : List ℕ) → ((x : ℕ) → has xs x ≡ true → has ys x ≡ true) → ((x : ℕ) → has ys x ≡ true → has xs x ≡ true) → is_some_item xs ≡ is_some_item ys
items_same [] [] f g = refl
items_same [] (y ∷ ys) f g = let i = item_of (y ∷ ys) refl in absurd (false≢true (g i.0 i.1))
items_same (x ∷ xs) [] f g = let i = item_of (x ∷ xs) refl in absurd (false≢true (f i.0 i.1))
items_same (x ∷ xs) (y ∷ ys) f g = refl

pub some_item_is : (xs : List ℕ) → not (nat_eq (length xs) 0) ≡ is_some_item xs
some_item_is [] = refl
some_item_is (y ∷ ys) = by (nat_eq (suc (length ys)) 0) refl
  where
    by : (b : Bool) → nat_eq (suc (length ys)) 0 ≡ b → not b ≡ true
    by true e = let same = (Decides-eqb (suc (length ys)) 0).0 e in absurd (omega arith)
    by false e = refl
