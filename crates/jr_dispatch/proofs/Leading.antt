-- A search from number to number finds what they lead to.
use Rattle.std.proofs.Common.{◌≡◌, ◌⊎◌, refl, sym, ap, subst, inl, inr, ⊎_elim, arith, ℕ, zero, suc, ◌+◌, ◌≤◌, Bool, true, false, cond, not, List, [], ◌∷◌, ◌++◌, filter, length, length-append, nat_eq, Decides}
use Rattle.std.proofs.lemmas.Bool.{false≢true, or_left, or_right, or_cases, cases_eq}
use Rattle.std.proofs.lemmas.Bool.Decides.{Decides-eqb}
use Rattle.jr_plain.specs.Search.{has, Reaches}
use Rattle.jr_plain.proofs.Searches.{among_filter, among_append}
use Rattle.jr_dispatch.specs.Overridden.{next_of, others_of, is_led_to}

-- the first of a list is one of it, and so is each one of the rest
pub head_in : (x : ℕ) (xs : List ℕ) → has (x ∷ xs) x ≡ true
head_in x xs = or_left (nat_eq x x) (has xs x) ((Decides-eqb x x).1 refl)

pub rest_in : (x y : ℕ) (xs : List ℕ) → has xs y ≡ true → has (x ∷ xs) y ≡ true
rest_in x y xs h = or_right (nat_eq x y) (has xs y) h

pub in_cons : (x y : ℕ) (xs : List ℕ) → has (x ∷ xs) y ≡ true → (x ≡ y) ⊎ (has xs y ≡ true)
in_cons x y xs h = ⊎_elim (λ e. inl ((Decides-eqb x y).0 e)) (λ k. inr k) (or_cases (nat_eq x y) (has xs y) h)

pub reaches_then : {E : ℕ → ℕ → Type 0} {a b c : ℕ} → Reaches E a b → E b c → Reaches E a c
reaches_then (Reaches.direct e) f = Reaches.further e (Reaches.direct f)
reaches_then (Reaches.further e more) f = Reaches.further e (reaches_then more f)

split_length : (test : ℕ → Bool) (xs : List ℕ) → length (filter test xs) + length (filter (λ y. not (test y)) xs) ≡ length xs
split_length test [] = refl
split_length test (x ∷ xs) = by (test x) (split_length test xs)
  where
    by : (b : Bool) → length (filter test xs) + length (filter (λ y. not (test y)) xs) ≡ length xs
        → length (cond b (x ∷ filter test xs) (filter test xs)) + length (cond (not b) (x ∷ filter (λ y. not (test y)) xs) (filter (λ y. not (test y)) xs)) ≡ suc (length xs)
    by true e = omega (arith, e)
    by false e = omega (arith, e)

module _ (test : ℕ → ℕ → Bool) where
  abbrev Leads : ℕ → ℕ → Type 0
  Leads x y = test x y ≡ true

  in_next : (x y : ℕ) (left : List ℕ) → Decides (has (next_of test x left) y) ((has left y ≡ true) × Leads x y)
  in_next x y left = among_filter nat_eq Decides-eqb (λ z. test x z) left y

  in_others : (x y : ℕ) (left : List ℕ) → Decides (has (others_of test x left) y) ((has left y ≡ true) × (not (test x y) ≡ true))
  in_others x y left = among_filter nat_eq Decides-eqb (λ z. not (test x z)) left y

  -- what is left is led to or not
  parted : (x y : ℕ) (left : List ℕ) → has left y ≡ true → (has (next_of test x left) y ≡ true) ⊎ (has (others_of test x left) y ≡ true)
  parted x y left at = by (test x y) refl
    where
      by : (b : Bool) → test x y ≡ b → (has (next_of test x left) y ≡ true) ⊎ (has (others_of test x left) y ≡ true)
      by true e = inl ((in_next x y left).1 (at, e))
      by false e = inr ((in_others x y left).1 (at, ap not e))

  module _ (m k : ℕ) where
    led_out : (n : ℕ) (met left : List ℕ) → ((x : ℕ) → has met x ≡ true → Reaches Leads m x) → is_led_to test k n met left ≡ true → Reaches Leads m k
    led_out zero met left all h = absurd (false≢true h)
    led_out (suc n) [] left all h = absurd (false≢true h)
    led_out (suc n) (x ∷ met) left all h = ⊎_elim (λ e. subst (λ y. Reaches Leads m y) ((Decides-eqb x k).0 e) (all x (head_in x met)))
        (λ more. led_out n (met ++ next_of test x left) (others_of test x left)
        (λ y at. ⊎_elim (λ a. all y (rest_in x y met a)) (λ a. reaches_then (all x (head_in x met)) ((in_next x y left).0 a).1) ((among_append nat_eq Decides-eqb met (next_of test x left) y).0 at)) more)
        (or_cases (nat_eq x k) (is_led_to test k n (met ++ next_of test x left) (others_of test x left)) h)

    module _ (like : List ℕ) (Known : ℕ → Type 0) (step : (x y : ℕ) → Known x → Leads x y → Known y × (has like y ≡ true)) where
      -- what is done, met and left are all; what is done leads to what is done or met
      record IsLeading (done met left : List ℕ) : Type 0 where
        known : (x : ℕ) → (has done x ≡ true) ⊎ (has met x ≡ true) → Known x
        cover : (y : ℕ) → has like y ≡ true → (has done y ≡ true) ⊎ ((has met y ≡ true) ⊎ (has left y ≡ true))
        closed : (x y : ℕ) → (m ≡ x) ⊎ (has done x ≡ true) → Leads x y → (has done y ≡ true) ⊎ (has met y ≡ true)

      path_done : (done left : List ℕ) → IsLeading done [] left → {x y : ℕ} → (m ≡ x) ⊎ (has done x ≡ true) → Reaches Leads x y → has done y ≡ true
      path_done done left inv {x} {y} from (Reaches.direct e) = ⊎_elim (λ a. a) (λ a. absurd (false≢true a)) (inv.closed x y from e)
      path_done done left inv {x} {y} from (Reaches.further {r = r} e more) = path_done done left inv (inr (⊎_elim (λ a. a) (λ a. absurd (false≢true a)) (inv.closed x r from e))) more

      next_leading : (x : ℕ) (done met left : List ℕ) → IsLeading done (x ∷ met) left → IsLeading (x ∷ done) (met ++ next_of test x left) (others_of test x left)
      next_leading x done met left inv = record { known = known; cover = cover; closed = closed }
        where
          here : Known x
          here = inv.known x (inr (head_in x met))

          behind : (y : ℕ) → has met y ≡ true → has (met ++ next_of test x left) y ≡ true
          behind y a = (among_append nat_eq Decides-eqb met (next_of test x left) y).1 (inl a)

          new : (y : ℕ) → has (next_of test x left) y ≡ true → has (met ++ next_of test x left) y ≡ true
          new y a = (among_append nat_eq Decides-eqb met (next_of test x left) y).1 (inr a)

          moved : (y : ℕ) → (has done y ≡ true) ⊎ (has (x ∷ met) y ≡ true) → (has (x ∷ done) y ≡ true) ⊎ (has (met ++ next_of test x left) y ≡ true)
          moved y (inl a) = inl (rest_in x y done a)
          moved y (inr a) = ⊎_elim (λ same. inl (subst (λ z. has (x ∷ done) z ≡ true) same (head_in x done))) (λ b. inr (behind y b)) (in_cons x y met a)

          known : (y : ℕ) → (has (x ∷ done) y ≡ true) ⊎ (has (met ++ next_of test x left) y ≡ true) → Known y
          known y (inl a) = ⊎_elim (λ same. subst Known same here) (λ b. inv.known y (inl b)) (in_cons x y done a)
          known y (inr a) = ⊎_elim (λ b. inv.known y (inr (rest_in x y met b))) (λ b. (step x y here ((in_next x y left).0 b).1).0) ((among_append nat_eq Decides-eqb met (next_of test x left) y).0 a)

          cover : (y : ℕ) → has like y ≡ true → (has (x ∷ done) y ≡ true) ⊎ ((has (met ++ next_of test x left) y ≡ true) ⊎ (has (others_of test x left) y ≡ true))
          cover y at = ⊎_elim (λ a. inl (rest_in x y done a)) (⊎_elim (λ a. ⊎_elim (λ b. inl b) (λ b. inr (inl b)) (moved y (inr a))) (λ a. inr (⊎_elim (λ b. inl (new y b)) (λ b. inr b) (parted x y left a)))) (inv.cover y at)

          from_here : (y : ℕ) → Leads x y → (has (x ∷ done) y ≡ true) ⊎ (has (met ++ next_of test x left) y ≡ true)
          from_here y e = ⊎_elim (λ a. inl (rest_in x y done a)) (⊎_elim (λ a. moved y (inr a)) (λ a. inr (new y ((in_next x y left).1 (a, e))))) (inv.cover y (step x y here e).1)

          closed : (z y : ℕ) → (m ≡ z) ⊎ (has (x ∷ done) z ≡ true) → Leads z y → (has (x ∷ done) y ≡ true) ⊎ (has (met ++ next_of test x left) y ≡ true)
          closed z y (inl same) e = moved y (inv.closed z y (inl same) e)
          closed z y (inr a) e = ⊎_elim (λ same. from_here y (subst (λ w. Leads w y) (sym same) e)) (λ b. moved y (inv.closed z y (inr b) e)) (in_cons x z done a)

      led_into : (n : ℕ) (done met left : List ℕ) → length met + length left ≤ n → IsLeading done met left → (has done k ≡ true → ⊥) → Reaches Leads m k → is_led_to test k n met left ≡ true
      led_into n done [] left room inv apart path = absurd (apart (path_done done left inv (inl refl) path))
      led_into zero done (x ∷ met) left room inv apart path = absurd (omega arith)
      led_into (suc n) done (x ∷ met) left room inv apart path = ⊎_elim (λ same. or_left (nat_eq x k) _ ((Decides-eqb x k).1 same))
          (λ other. or_right (nat_eq x k) _ (led_into n (x ∷ done) (met ++ next_of test x left) (others_of test x left) fits (next_leading x done met left inv)
          (λ a. ⊎_elim (λ same. other same) (λ b. apart b) (in_cons x k done a)) path))
          (cases_eq x k)
        where
          fits : length (met ++ next_of test x left) + length (others_of test x left) ≤ n
          fits = let a = length-append met (next_of test x left) in let b = split_length (λ y. test x y) left in omega arith

      start_leading : Known m → IsLeading [] (next_of test m like) (others_of test m like)
      start_leading known = record {
        known = λ x. ⊎_elim (λ a. absurd (false≢true a)) (λ a. (step m x known ((in_next m x like).0 a).1).0);
        cover = λ y at. inr (parted m y like at);
        closed = λ x y. ⊎_elim (λ same e. inr ((in_next m y like).1 ((step m y known (subst (λ z. Leads z y) (sym same) e)).1, subst (λ z. Leads z y) (sym same) e))) (λ a e. absurd (false≢true a));
      }

      -- the search tells what m leads to
      pub led_tells : Known m → Decides (is_led_to test k (length like) (next_of test m like) (others_of test m like)) (Reaches Leads m k)
      led_tells known = (
        led_out (length like) (next_of test m like) (others_of test m like) (λ x at. Reaches.direct ((in_next m x like).0 at).1),
        led_into (length like) [] (next_of test m like) (others_of test m like) (let b = split_length (λ y. test m y) like in omega arith) (start_leading known) (λ a. false≢true a),
      )
