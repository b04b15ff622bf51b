-- The search for an order keeps what holds on the way.
use Rattle.std.proofs.Common.{◌≡◌, ◌≢◌, ◌⊎◌, refl, sym, ◌∙◌, ap, ap₂, subst, inl, inr, ⊎_elim, arith, ℕ, zero, suc, ◌+◌, ◌<◌, Bool, true, false, cond, ◌&&◌, List, [], ◌∷◌, ◌++◌, length, length-append, replicate, append_assoc, nat_eq, slice_set, Option, Some, None}
use Rattle.std.proofs.lemmas.Bool.{false≢true, cases_eq, or_left, or_right, or_cases, and_from, and_parts}
use Rattle.std.proofs.lemmas.Bool.Decides.{Decides-eqb}
use Rattle.std.proofs.lemmas.List.{get_or-set_same, get_or-set_other, length-set}
use Rattle.std.proofs.lemmas.List.Folds.{list_any-append}
use Rattle.std.proofs.lemmas.Option.{none-some}
use Rattle.std.specs.Option.{MatchOption}
use Rattle.jr_tree.specs.Rows.{Rows}
use Rattle.jr_defs.specs.Declarations.{IsType}
use Rattle.jr_plain.specs.Search.{has, Reaches, numbers}
use Rattle.jr_plain.specs.Declarations.{is_type}
use Rattle.jr_plain.proofs.Least.{below}
use Rattle.jr_plain.proofs.Bounds.{type_below}
use Rattle.jr_plain.proofs.Declared.{type_tells}
use Rattle.jr_places.specs.declared.chains.Entry.{Entry}
use Rattle.jr_supers.specs.declared.ordering.Open.{Open}
use Rattle.jr_supers.specs.Direct.{supers_in}
use Rattle.jr_supers.specs.Order.{IsSuperIn, HasNoLoop, AreBehind, IsOrderOf, is_met, enters, leaves_it, entering, enter, leave, step, turns_at, turns_below, turns_left, is_open, is_entered, IsPath, IsSearching, Search, searching}
use Rattle.jr_supers.proofs.Telling.{reaches_then}

-- ---- lists of what is open

open_in : (xs ys : List Open) (c : ℕ) → is_open (xs ++ ys) c ≡ true → (is_open xs c ≡ true) ⊎ (is_open ys c ≡ true)
open_in xs ys c h = or_cases (is_open xs c) (is_open ys c) (sym (list_any-append (λ o. nat_eq o.at c) xs ys) ∙ h)

open_left : (xs ys : List Open) (c : ℕ) → is_open xs c ≡ true → is_open (xs ++ ys) c ≡ true
open_left xs ys c h = list_any-append (λ o. nat_eq o.at c) xs ys ∙ or_left (is_open xs c) (is_open ys c) h

open_right : (xs ys : List Open) (c : ℕ) → is_open ys c ≡ true → is_open (xs ++ ys) c ≡ true
open_right xs ys c h = list_any-append (λ o. nat_eq o.at c) xs ys ∙ or_right (is_open xs c) (is_open ys c) h

entered_in : (xs ys : List Open) (c : ℕ) → is_entered (xs ++ ys) c ≡ true → (is_entered xs c ≡ true) ⊎ (is_entered ys c ≡ true)
entered_in xs ys c h = or_cases (is_entered xs c) (is_entered ys c) (sym (list_any-append (λ o. nat_eq o.at c && o.leaves) xs ys) ∙ h)

entered_left : (xs ys : List Open) (c : ℕ) → is_entered xs c ≡ true → is_entered (xs ++ ys) c ≡ true
entered_left xs ys c h = list_any-append (λ o. nat_eq o.at c && o.leaves) xs ys ∙ or_left (is_entered xs c) (is_entered ys c) h

entered_right : (xs ys : List Open) (c : ℕ) → is_entered ys c ≡ true → is_entered (xs ++ ys) c ≡ true
entered_right xs ys c h = list_any-append (λ o. nat_eq o.at c && o.leaves) xs ys ∙ or_right (is_entered xs c) (is_entered ys c) h

same_one : (o : Open) (c : ℕ) → is_open (o ∷ []) c ≡ true → o.at ≡ c
same_one o c h = ⊎_elim (λ e. (Decides-eqb o.at c).0 e) (λ k. absurd (false≢true k)) (or_cases (nat_eq o.at c) false h)

one_same : (o : Open) (c : ℕ) → o.at ≡ c → is_open (o ∷ []) c ≡ true
one_same o c e = or_left (nat_eq o.at c) false ((Decides-eqb o.at c).1 e)

has_push : (order : List ℕ) (c s : ℕ) → (has order s ≡ true) ⊎ (c ≡ s) → has (order ++ c ∷ []) s ≡ true
has_push order c s h = list_any-append (λ k. nat_eq k s) order (c ∷ []) ∙ ⊎_elim (λ k. or_left (has order s) (has (c ∷ []) s) k) (λ e. or_right (has order s) (has (c ∷ []) s) (or_left (nat_eq c s) false ((Decides-eqb c s).1 e))) h

-- ---- the types of a list

one_entering : (b : Bool) (x s : ℕ) → is_open (cond b (enters x ∷ []) []) s ≡ true → (b ≡ true) × (x ≡ s)
one_entering true x s h = (refl, same_one (enters x) s h)
one_entering false x s h = absurd (false≢true h)

entering_one : (b : Bool) (x s : ℕ) → b ≡ true → x ≡ s → is_open (cond b (enters x ∷ []) []) s ≡ true
entering_one true x s h e = one_same (enters x) s e
entering_one false x s h e = absurd (false≢true h)

module _ (p : Rows) where
  entering_out : (xs : List ℕ) (s : ℕ) → is_open (entering p xs) s ≡ true → (has xs s ≡ true) × IsType p s
  entering_out [] s h = absurd (false≢true h)
  entering_out (x ∷ xs) s h = ⊎_elim (λ k. let one = one_entering (is_type p x) x s k in (or_left (nat_eq x s) (has xs s) ((Decides-eqb x s).1 one.1), subst (λ y. IsType p y) one.1 ((type_tells p x).0 one.0)))
      (λ k. let rest = entering_out xs s k in (or_right (nat_eq x s) (has xs s) rest.0, rest.1))
      (open_in (cond (is_type p x) (enters x ∷ []) []) (entering p xs) s h)

  entering_into : (xs : List ℕ) (s : ℕ) → has xs s ≡ true → IsType p s → is_open (entering p xs) s ≡ true
  entering_into [] s h type = absurd (false≢true h)
  entering_into (x ∷ xs) s h type = ⊎_elim
      (λ e. let same = (Decides-eqb x s).0 e in open_left (cond (is_type p x) (enters x ∷ []) []) (entering p xs) s (entering_one (is_type p x) x s ((type_tells p x).1 (subst (λ y. IsType p y) (sym same) type)) same))
      (λ k. open_right (cond (is_type p x) (enters x ∷ []) []) (entering p xs) s (entering_into xs s k type)) (or_cases (nat_eq x s) (has xs s) h)

  none_entered : (b : Bool) (x : ℕ) (rest : List Open) (s : ℕ) → is_entered (cond b (enters x ∷ []) [] ++ rest) s ≡ true → is_entered rest s ≡ true
  none_entered true x rest s h = ⊎_elim (λ k. absurd (false≢true (and_parts (nat_eq x s) false k).1)) (λ k. k) (or_cases (nat_eq x s && false) (is_entered rest s) h)
  none_entered false x rest s h = h

  entering_none : (xs : List ℕ) (s : ℕ) → is_entered (entering p xs) s ≡ true → ⊥
  entering_none [] s h = false≢true h
  entering_none (x ∷ xs) s h = entering_none xs s (none_entered (is_type p x) x (entering p xs) s h)

module _ (p : Rows) (supers : List Entry) where
  -- ---- the order

  behind_push : (order done : List ℕ) (c : ℕ) → AreBehind p supers done order → IsType p c → ((s : ℕ) → IsSuperIn supers c s → IsType p s → (has done s ≡ true) ⊎ (has order s ≡ true))
      → AreBehind p supers done (order ++ c ∷ [])
  behind_push [] done c h type over = (type, (λ s e k. ⊎_elim (λ d. d) (λ n. absurd (false≢true n)) (over s e k)), tt)
  behind_push (x ∷ order) done c h type over = (
    h.0,
    h.1,
    behind_push order (x ∷ done) c h.2 type (λ s e k. ⊎_elim (λ d. inl (or_right (nat_eq x s) (has done s) d))
        (λ n. ⊎_elim (λ e. inl (or_left (nat_eq x s) (has done s) e)) (λ n. inr n) (or_cases (nat_eq x s) (has order s) n)) (over s e k)),
  )

  -- ---- the path

  -- the last one is taken off
  path_less : (order more : List ℕ) (top : Open) (rest : List Open) → IsPath p supers order (rest ++ top ∷ []) → ((s : ℕ) → has order s ≡ true → has more s ≡ true) → has more top.at ≡ true → IsPath p supers more rest
  path_less order more top [] h kept there = tt
  path_less order more top (o ∷ rest) h kept there = (
    (λ leaves. let k = h.0 leaves in (
      (λ y at. k.0 y (open_left rest (top ∷ []) y at)),
      (λ s e type. ⊎_elim (λ d. inl (kept s d)) (λ at. ⊎_elim (λ at. inr at) (λ at. inl (subst (λ y. has more y ≡ true) (same_one top s at) there)) (open_in rest (top ∷ []) s at)) (k.1 s e type)),
    )),
    path_less order more top rest h.1 kept there,
  )

  -- all supertypes of the last one are in the order
  path_last : (order : List ℕ) (c : ℕ) (rest : List Open) → IsPath p supers order (rest ++ leaves_it c ∷ []) → (s : ℕ) → IsSuperIn supers c s → IsType p s → has order s ≡ true
  path_last order c [] h s e type = ⊎_elim (λ d. d) (λ n. absurd (false≢true n)) ((h.0 refl).1 s e type)
  path_last order c (o ∷ rest) h s e type = path_last order c rest h.1 s e type

  -- one that was entered and is met again stands above itself
  path_loop : (order : List ℕ) (c : ℕ) (rest : List Open) → IsPath p supers order (rest ++ enters c ∷ []) → is_entered rest c ≡ true → Reaches (IsSuperIn supers) c c
  path_loop order c [] h at = absurd (false≢true at)
  path_loop order c (o ∷ rest) h at = ⊎_elim
      (λ k. let both = and_parts (nat_eq o.at c) o.leaves k in let same = (Decides-eqb o.at c).0 both.0 in
      subst (λ y. Reaches (IsSuperIn supers) y c) same ((h.0 both.1).0 c (open_right rest (enters c ∷ []) c (one_same (enters c) c refl))))
      (λ k. path_loop order c rest h.1 k) (or_cases (nat_eq o.at c && o.leaves) (is_entered rest c) at)

  entering_path : (order : List ℕ) (xs : List ℕ) → IsPath p supers order (entering p xs)
  entering_path order [] = tt
  entering_path order (x ∷ xs) = by (is_type p x) (entering_path order xs)
    where
      by : (b : Bool) → IsPath p supers order (entering p xs) → IsPath p supers order (cond b (enters x ∷ []) [] ++ entering p xs)
      by true h = ((λ e. absurd (false≢true e)), h)
      by false h = h

  -- the last one is entered
  path_enter : (order : List ℕ) (c : ℕ) (rest : List Open) → IsPath p supers order (rest ++ enters c ∷ []) → IsPath p supers order (rest ++ (leaves_it c ∷ entering p (supers_in supers c)))
  path_enter order c [] h = ((λ e. ((λ y at. Reaches.direct (entering_out p (supers_in supers c) y at).0), (λ s e type. inr (entering_into p (supers_in supers c) s e type)))), entering_path order (supers_in supers c))
  path_enter order c (o ∷ rest) h = (
    (λ leaves. let k = h.0 leaves in let up = k.0 c (open_right rest (enters c ∷ []) c (one_same (enters c) c refl)) in (
      (λ y at. ⊎_elim (λ a. k.0 y (open_left rest (enters c ∷ []) y a))
          (λ a. ⊎_elim (λ e. subst (λ z. Reaches (IsSuperIn supers) o.at z) ((Decides-eqb c y).0 e) up) (λ n. reaches_then up (Reaches.direct (entering_out p (supers_in supers c) y n).0))
          (or_cases (nat_eq c y) (is_open (entering p (supers_in supers c)) y) a))
          (open_in rest (leaves_it c ∷ entering p (supers_in supers c)) y at)),
      (λ s e type. ⊎_elim (λ d. inl d) (λ a. inr (⊎_elim (λ b. open_left rest (leaves_it c ∷ entering p (supers_in supers c)) s b)
          (λ b. open_right rest (leaves_it c ∷ entering p (supers_in supers c)) s (or_left (nat_eq c s) (is_open (entering p (supers_in supers c)) s) ((Decides-eqb c s).1 (same_one (enters c) s b))))
          (open_in rest (enters c ∷ []) s a))) (k.1 s e type)),
    )),
    path_enter order c rest h.1,
  )

  -- ---- the search

  module _ (no_loop : HasNoLoop supers) (met : List Bool) (rest : List Open) (order : List ℕ) where
    leave_one : (c : ℕ) → IsSearching p supers (searching met (rest ++ leaves_it c ∷ []) order) → IsSearching p supers (searching met rest (order ++ c ∷ []))
    leave_one c h = record {
      size = h.size;
      types = λ k at. h.types k (open_left rest (leaves_it c ∷ []) k at);
      met = λ k lt at. ⊎_elim (λ d. inl (has_push order c k (inl d)))
          (λ e. ⊎_elim (λ e. inr e) (λ e. inl (has_push order c k (inr ((Decides-eqb c k).0 (and_parts (nat_eq c k) true (⊎_elim (λ x. x) (λ n. absurd (false≢true n)) (or_cases (nat_eq c k && true) false e))).0)))) (entered_in rest (leaves_it c ∷ []) k e)) (h.met k lt at);
      behind = behind_push order [] c h.behind (h.types c (open_right rest (leaves_it c ∷ []) c (one_same (leaves_it c) c refl))) (λ s e type. inr (path_last order c rest h.path s e type));
      path = path_less order (order ++ c ∷ []) (leaves_it c) rest h.path (λ s d. has_push order c s (inl d)) (has_push order c c (inr refl));
      all = λ k type. ⊎_elim (λ d. inl (has_push order c k (inl d))) (λ a. ⊎_elim (λ a. inr a) (λ a. inl (has_push order c k (inr (same_one (leaves_it c) k a)))) (open_in rest (leaves_it c ∷ []) k a)) (h.all k type);
    }

    not_entered : (c k : ℕ) → is_entered (rest ++ enters c ∷ []) k ≡ true → is_entered rest k ≡ true
    not_entered c k h = ⊎_elim (λ e. e) (λ e. absurd (false≢true (and_parts (nat_eq c k) false (⊎_elim (λ x. x) (λ n. absurd (false≢true n)) (or_cases (nat_eq c k && false) false e))).1)) (entered_in rest (enters c ∷ []) k h)

    skip_one : (c : ℕ) → IsSearching p supers (searching met (rest ++ enters c ∷ []) order) → is_met met c ≡ true → IsSearching p supers (searching met rest order)
    skip_one c h is = let there : has order c ≡ true = ⊎_elim (λ d. d) (λ e. absurd (no_loop c (path_loop order c rest h.path (not_entered c c e)))) (h.met c (type_below p c (h.types c (open_right rest (enters c ∷ []) c (one_same (enters c) c refl)))) is) in record {
      size = h.size;
      types = λ k at. h.types k (open_left rest (enters c ∷ []) k at);
      met = λ k lt at. ⊎_elim (λ d. inl d) (λ e. inr (not_entered c k e)) (h.met k lt at);
      behind = h.behind;
      path = path_less order order (enters c) rest h.path (λ s d. d) there;
      all = λ k type. ⊎_elim (λ d. inl d) (λ a. ⊎_elim (λ a. inr a) (λ a. inl (subst (λ y. has order y ≡ true) (same_one (enters c) k a) there)) (open_in rest (enters c ∷ []) k a)) (h.all k type);
    }

    enter_one : (c : ℕ) → IsSearching p supers (searching met (rest ++ enters c ∷ []) order) → IsSearching p supers (searching (slice_set met c true) (rest ++ (leaves_it c ∷ entering p (supers_in supers c))) order)
    enter_one c h = let type = h.types c (open_right rest (enters c ∷ []) c (one_same (enters c) c refl)) in let news : List Open = leaves_it c ∷ entering p (supers_in supers c) in record {
      size = length-set met c true ∙ h.size;
      types = λ k at. ⊎_elim (λ a. h.types k (open_left rest (enters c ∷ []) k a))
          (λ a. ⊎_elim (λ e. subst (λ y. IsType p y) ((Decides-eqb c k).0 e) type) (λ n. (entering_out p (supers_in supers c) k n).1) (or_cases (nat_eq c k) (is_open (entering p (supers_in supers c)) k) a))
          (open_in rest news k at);
      met = λ k lt at. ⊎_elim
          (λ e. inr (entered_right rest news k (or_left (nat_eq c k && true) (is_entered (entering p (supers_in supers c)) k) (and_from (nat_eq c k) true ((Decides-eqb c k).1 (sym e)) refl))))
          (λ apart. ⊎_elim (λ d. inl d) (λ e. inr (entered_left rest news k (not_entered c k e))) (h.met k lt (sym (get_or-set_other met c k true true apart) ∙ at))) (cases_eq k c);
      behind = h.behind;
      path = path_enter order c rest h.path;
      all = λ k type. ⊎_elim (λ d. inl d) (λ a. inr (⊎_elim (λ a. open_left rest news k a)
          (λ a. open_right rest news k (or_left (nat_eq c k) (is_open (entering p (supers_in supers c)) k) ((Decides-eqb c k).1 (same_one (enters c) k a)))) (open_in rest (enters c ∷ []) k a))) (h.all k type);
    }

    step_by : (top : Open) (leaves : Bool) → top.leaves ≡ leaves → IsSearching p supers (searching met (rest ++ top ∷ []) order) → IsSearching p supers (step p supers top (searching met rest order))
    step_by top true e h = subst (λ b. IsSearching p supers (cond b (leave top.at (searching met rest order)) (cond (is_met met top.at) (searching met rest order) (enter p supers top.at (searching met rest order))))) (sym e)
        (leave_one top.at (subst (λ o. IsSearching p supers (searching met (rest ++ o ∷ []) order)) (λ i. record { at = top.at; leaves = e i }) h))
    step_by top false e h = subst (λ b. IsSearching p supers (cond b (leave top.at (searching met rest order)) (cond (is_met met top.at) (searching met rest order) (enter p supers top.at (searching met rest order))))) (sym e)
        (by (is_met met top.at) refl (subst (λ o. IsSearching p supers (searching met (rest ++ o ∷ []) order)) (λ i. record { at = top.at; leaves = e i }) h))
      where
        by : (b : Bool) → is_met met top.at ≡ b → IsSearching p supers (searching met (rest ++ enters top.at ∷ []) order) → IsSearching p supers (cond b (searching met rest order) (enter p supers top.at (searching met rest order)))
        by true is h = skip_one top.at h is
        by false is h = subst (λ xs. IsSearching p supers (searching (slice_set met top.at true) xs order)) (sym (append_assoc rest (leaves_it top.at ∷ []) (entering p (supers_in supers top.at)))) (enter_one top.at h)

  pub one_step : HasNoLoop supers → (met : List Bool) (all rest : List Open) (order : List ℕ) (top : Open) → IsSearching p supers (searching met all order) → all ≡ rest ++ top ∷ []
      → IsSearching p supers (step p supers top (searching met rest order))
  one_step no_loop met all rest order top h popped = step_by no_loop met rest order top top.leaves refl (subst (λ xs. IsSearching p supers (searching met xs order)) popped h)

  -- at its end and at its start
  pub ends : (met : List Bool) (all : List Open) (order : List ℕ) → IsSearching p supers (searching met all order) → all ≡ [] → IsOrderOf p supers order
  ends met all order h none = record { behind = h.behind; all = λ c type. ⊎_elim (λ d. d) (λ a. absurd (false≢true (ap (λ xs. is_open xs c) (sym none) ∙ a))) (h.all c type) }

  unmet : (n c : ℕ) → c < n → is_met (replicate n false) c ≡ true → ⊥
  unmet zero c lt h = absurd (omega arith)
  unmet (suc n) zero lt h = false≢true h
  unmet (suc n) (suc c) lt h = unmet n c (omega arith) h

  length_of : (n : ℕ) → length (replicate n false) ≡ n
  length_of zero = refl
  length_of (suc n) = ap suc (length_of n)

  pub begins : IsSearching p supers (searching (replicate (length p) false) (entering p (numbers (length p))) [])
  begins = record {
    size = length_of (length p);
    types = λ c at. (entering_out p (numbers (length p)) c at).1;
    met = λ c lt at. absurd (unmet (length p) c lt at);
    behind = tt;
    path = entering_path [] (numbers (length p));
    all = λ c type. inr (entering_into p (numbers (length p)) c ((below (length p) c).1 (type_below p c type)) type);
  }

-- ---- with each turn fewer are left

past_met : (met : List Bool) (c : ℕ) → is_met met c ≡ false → c < length met
past_met [] c h = absurd (false≢true (sym h))
past_met (b ∷ met) zero h = omega arith
past_met (b ∷ met) (suc c) h = let lt = past_met met c h in omega arith

module _ (p : Rows) (supers : List Entry) where
  turns_same : (met more : List Bool) (n : ℕ) → ((k : ℕ) → k < n → is_met more k ≡ is_met met k) → turns_below p supers more n ≡ turns_below p supers met n
  turns_same met more zero same = refl
  turns_same met more (suc n) same = ap₂ (λ a b. a + turns_at p supers b n) (turns_same met more n (λ k lt. same k (omega arith))) (same n (omega arith))

  turns_less : (met : List Bool) (c n : ℕ) → is_met met c ≡ false → c < n → turns_below p supers (slice_set met c true) n + suc (length (entering p (supers_in supers c))) ≡ turns_below p supers met n
  turns_less met c zero h lt = absurd (omega arith)
  turns_less met c (suc n) h lt = ⊎_elim (λ e. now e) (λ apart. before apart (turns_less met c n h (omega arith))) (cases_eq c n)
    where
      now : c ≡ n → turns_below p supers (slice_set met c true) (suc n) + suc (length (entering p (supers_in supers c))) ≡ turns_below p supers met (suc n)
      now e = let rest = turns_same met (slice_set met c true) n (λ k less. get_or-set_other met c k true true (λ same. absurd (omega arith))) in
          let set = ap (λ b. turns_at p supers b n) (ap (is_met (slice_set met c true)) (sym e) ∙ get_or-set_same met c true true (past_met met c h)) in
          let was = ap (λ b. turns_at p supers b n) (ap (is_met met) (sym e) ∙ h) in
          let same = ap (λ x. length (entering p (supers_in supers x))) e in omega arith

      before : c ≢ n → turns_below p supers (slice_set met c true) n + suc (length (entering p (supers_in supers c))) ≡ turns_below p supers met n → turns_below p supers (slice_set met c true) (suc n) + suc (length (entering p (supers_in supers c))) ≡ turns_below p supers met (suc n)
      before apart rest = let kept = ap (λ b. turns_at p supers b n) (get_or-set_other met c n true true (λ same. apart (sym same))) in omega arith

  abbrev fewer : Search → List Bool → List Open → Type 0
  fewer search met all = turns_left p supers search.met search.open_types < turns_left p supers met all

  turns_fall : (met : List Bool) (rest : List Open) (order : List ℕ) (top : Open) → fewer (step p supers top (searching met rest order)) met (rest ++ top ∷ [])
  turns_fall met rest order top = by top.leaves
    where
      size : length (rest ++ top ∷ []) ≡ length rest + 1
      size = length-append rest (top ∷ [])

      enters_one : is_met met top.at ≡ false → fewer (enter p supers top.at (searching met rest order)) met (rest ++ top ∷ [])
      enters_one h = let grown = length-append (rest ++ leaves_it top.at ∷ []) (entering p (supers_in supers top.at)) in let one = length-append rest (leaves_it top.at ∷ []) in let was = size in
          let kept = length-set met top.at true in let same = ap (turns_below p supers (slice_set met top.at true)) kept in
          let less = turns_less met top.at (length met) h (past_met met top.at h) in omega arith

      by_met : (b : Bool) → is_met met top.at ≡ b → fewer (cond b (searching met rest order) (enter p supers top.at (searching met rest order))) met (rest ++ top ∷ [])
      by_met true h = let was = size in omega arith
      by_met false h = enters_one h

      by : (b : Bool) → fewer (cond b (leave top.at (searching met rest order)) (cond (is_met met top.at) (searching met rest order) (enter p supers top.at (searching met rest order)))) met (rest ++ top ∷ [])
      by true = let was = size in omega arith
      by false = by_met (is_met met top.at) refl

  pub one_turn : (met more : List Bool) (all rest next : List Open) (order done : List ℕ) (top : Open) → all ≡ rest ++ top ∷ [] → searching more next done ≡ step p supers top (searching met rest order)
      → turns_left p supers more next < turns_left p supers met all
  one_turn met more all rest next order done top popped is = subst (λ s. turns_left p supers s.met s.open_types < turns_left p supers met all) (sym is)
      (subst (λ xs. turns_left p supers (step p supers top (searching met rest order)).met (step p supers top (searching met rest order)).open_types < turns_left p supers met xs) (sym popped) (turns_fall met rest order top))

pub no_items : (xs : List Open) → length xs ≡ 0 → xs ≡ []
no_items [] e = refl
no_items (x ∷ xs) e = absurd (omega arith)

pub nothing_left : {A : Type 0} (o : Option A) (P Q : Type 0) (R : A → Type 0) → o ≡ None → MatchOption o (P × Q) R → P
nothing_left None P Q R e h = h.0
nothing_left (Some x) P Q R e h = absurd (none-some x (sym e))
