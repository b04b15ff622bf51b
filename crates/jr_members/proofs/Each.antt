-- Lists that have each number once.
use Rattle.std.proofs.Common.{◌≡◌, ◌⊎◌, refl, sym, ◌∙◌, ap, subst, inl, inr, ⊎_elim, arith, ℕ, zero, suc, ◌<◌, Bool, true, false, not, cond, ◌&&◌, ◌||◌, List, [], ◌∷◌, ◌++◌, append_assoc, append-nil, filter, get_or, length, nat_eq, Decides}
use Rattle.std.specs.List.{list_any}
use Rattle.std.proofs.lemmas.Bool.{false≢true, false_from_ne_true, cond-true, cond-false, cond_both, cases_Bool, or_left, or_right, or_cases, or_parts, or_from}
use Rattle.std.proofs.lemmas.Bool.Decides.{Decides-eqb}
use Rattle.jr_plain.specs.Search.{has, Lists}
use Rattle.jr_plain.proofs.Tests.{like}
use Rattle.jr_plain.proofs.Searches.{among_filter, among_append}
use Rattle.jr_places.specs.declared.stamps.Stamps.{Stamps}
use Rattle.jr_places.specs.Stamps.{is_stamped, IsStamping, IsEmptied, AddsStamp}
use Rattle.jr_supers.proofs.Subtyped.{one_test}
use Rattle.jr_members.specs.Each.{StandOnce, ListsEach, if_such, with_new, with_each, AreBelow, IsStampedAs, IsPushedAs, IsPushingEach}

-- ---- items

pub has_push : (xs : List ℕ) (y d : ℕ) → Decides (has (xs ++ y ∷ []) d) ((has xs d ≡ true) ⊎ (y ≡ d))
has_push xs y d = like (among_append nat_eq Decides-eqb xs (y ∷ []) d) (⊎_elim (λ h. inl h) (λ h. inr (⊎_elim (λ e. (Decides-eqb y d).0 e) (λ n. absurd (false≢true n)) (or_cases (nat_eq y d) false h))))
    (⊎_elim (λ h. inl h) (λ h. inr (or_left (nat_eq y d) false ((Decides-eqb y d).1 h))))

pub has_front : (y d : ℕ) (rest : List ℕ) → has (y ∷ rest) d ≡ true → (y ≡ d) ⊎ (has rest d ≡ true)
has_front y d rest h = ⊎_elim (λ e. inl ((Decides-eqb y d).0 e)) (λ k. inr k) (or_cases (nat_eq y d) (has rest d) h)

pub front_has : (y : ℕ) (rest : List ℕ) → has (y ∷ rest) y ≡ true
front_has y rest = or_left (nat_eq y y) (has rest y) ((Decides-eqb y y).1 refl)

pub rest_has : (y d : ℕ) (rest : List ℕ) → has rest d ≡ true → has (y ∷ rest) d ≡ true
rest_has y d rest h = or_right (nat_eq y d) (has rest d) h

-- the first item of a list that begins so, and the others
pub first_in : (d : ℕ) (rest more : List ℕ) → more ≡ d ∷ rest → has more d ≡ true
first_in d rest more is = subst (λ xs. has xs d ≡ true) (sym is) (front_has d rest)

pub rest_in : (d e : ℕ) (rest more : List ℕ) → more ≡ d ∷ rest → has rest e ≡ true → has more e ≡ true
rest_in d e rest more is h = subst (λ xs. has xs e ≡ true) (sym is) (rest_has d e rest h)

pub front_in : (d e : ℕ) (rest more : List ℕ) → more ≡ d ∷ rest → has more e ≡ true → (d ≡ e) ⊎ (has rest e ≡ true)
front_in d e rest more is h = has_front d e rest (subst (λ xs. has xs e ≡ true) is h)

pub none_in : (e : ℕ) (rest : List ℕ) → rest ≡ [] → has rest e ≡ true → ⊥
none_in e rest none h = false≢true (subst (λ xs. has xs e ≡ true) none h)

pub not_both : {b : Bool} → b ≡ false → b ≡ true → ⊥
not_both is_no is = false≢true (sym is_no ∙ is)

-- ---- each once

pub stand_push : (xs : List ℕ) (y : ℕ) → StandOnce xs → has xs y ≡ false → StandOnce (xs ++ y ∷ [])
stand_push [] y h none = (refl, tt)
stand_push (x ∷ xs) y h none = let parts = or_parts (nat_eq x y) (has xs y) none in (
  false_from_ne_true (has (xs ++ y ∷ []) x) (λ k. ⊎_elim (λ a. not_both h.0 a) (λ same. not_both parts.0 ((Decides-eqb x y).1 (sym same))) ((has_push xs y x).0 k)),
  stand_push xs y h.1 parts.1,
)

pub stand_filter : (test : ℕ → Bool) (xs : List ℕ) → StandOnce xs → StandOnce (filter test xs)
stand_filter test [] h = h
stand_filter test (x ∷ xs) h = let more = stand_filter test xs h.1 in cond_both (test x) (x ∷ filter test xs) (filter test xs) StandOnce
    (λ e. (false_from_ne_true (has (filter test xs) x) (λ k. not_both h.0 ((among_filter nat_eq Decides-eqb test xs x).0 k).0), more)) (λ e. more)

-- a list has been searched
pub filter_end : (test : ℕ → Bool) (all rest found : List ℕ) → rest ≡ [] → found ++ filter test rest ≡ filter test all → found ≡ filter test all
filter_end test all rest found none h = sym (append-nil found) ∙ ap (λ xs. found ++ filter test xs) (sym none) ∙ h

-- one item more has been searched
pub filter_next : (test : ℕ → Bool) (all rest more : List ℕ) (d : ℕ) (found now : List ℕ) (is_such : Bool) → more ≡ d ∷ rest → is_such ≡ test d → now ≡ found ++ if_such is_such d → found ++ filter test more ≡ filter test all → now ++ filter test rest ≡ filter test all
filter_next test all rest more d found now is_such is such pushed h = ap (λ xs. xs ++ filter test rest) (pushed ∙ ap (λ b. found ++ if_such b d) such) ∙ append_assoc found (if_such (test d) d) (filter test rest)
    ∙ ap (λ xs. found ++ xs) (by (test d)) ∙ ap (λ xs. found ++ filter test xs) (sym is) ∙ h
  where
    by : (b : Bool) → if_such b d ++ filter test rest ≡ cond b (d ∷ filter test rest) (filter test rest)
    by true = refl
    by false = refl

-- an item at a place
pub item_in : (xs : List ℕ) (i d : ℕ) → i < length xs → has xs (get_or xs i d) ≡ true
item_in [] i d lt = absurd (omega arith)
item_in (x ∷ xs) zero d lt = front_has x xs
item_in (x ∷ xs) (suc i) d lt = rest_has x (get_or xs i d) xs (item_in xs i d (omega arith))

pub any_more : (test : ℕ → Bool) (d : ℕ) (rest more : List ℕ) → more ≡ d ∷ rest → list_any test more ≡ (test d || list_any test rest)
any_more test d rest more is = ap (list_any test) is

-- a list of nothing
pub none_any : (own : List ℕ) → nat_eq (length own) 0 ≡ not (list_any (λ e. true) own)
none_any [] = refl
none_any (x ∷ xs) = false_from_ne_true (nat_eq (length (x ∷ xs)) 0) (λ h. let same = (Decides-eqb (length (x ∷ xs)) 0).0 h in absurd (omega arith))

-- ---- a number more

pub new_has : (all : List ℕ) (d e : ℕ) → Decides (has (with_new all d) e) ((has all e ≡ true) ⊎ (d ≡ e))
new_has all d e = cond_both (has all d) all (all ++ d ∷ []) (λ xs. Decides (has xs e) ((has all e ≡ true) ⊎ (d ≡ e)))
    (λ there. (λ h. inl h, ⊎_elim (λ h. h) (λ same. subst (λ e. has all e ≡ true) same there))) (λ not_there. has_push all d e)

pub stand_new : (all : List ℕ) (d : ℕ) → StandOnce all → StandOnce (with_new all d)
stand_new all d h = cond_both (has all d) all (all ++ d ∷ []) StandOnce (λ there. h) (λ not_there. stand_push all d h not_there)

pub each_has : (more all : List ℕ) (e : ℕ) → Decides (has (with_each all more) e) ((has all e ≡ true) ⊎ (has more e ≡ true))
each_has [] all e = (λ h. inl h, ⊎_elim (λ h. h) (λ h. absurd (false≢true h)))
each_has (d ∷ more) all e = like (each_has more (with_new all d) e)
    (⊎_elim (λ h. ⊎_elim (λ a. inl a) (λ same. inr (or_left (nat_eq d e) (has more e) ((Decides-eqb d e).1 same))) ((new_has all d e).0 h)) (λ h. inr (or_right (nat_eq d e) (has more e) h)))
    (⊎_elim (λ h. inl ((new_has all d e).1 (inl h))) (λ h. ⊎_elim (λ same. inl ((new_has all d e).1 (inr same))) (λ k. inr k) (has_front d e more h)))

pub stand_each : (more all : List ℕ) → StandOnce all → StandOnce (with_each all more)
stand_each [] all h = h
stand_each (d ∷ more) all h = stand_each more (with_new all d) (stand_new all d h)

-- ---- stamps

pub stamped_none : (bound : ℕ) (stamps : Stamps) (all : List ℕ) → all ≡ [] → IsEmptied stamps bound → IsStampedAs bound stamps all
stamped_none bound stamps all none h = record { counted = h.counted; same = λ d. h.none d ∙ ap (λ xs. has xs d) (sym none) }

module _ (bound : ℕ) (old new : Stamps) (all more : List ℕ) (d : ℕ) (lt : d < bound) (was : IsStampedAs bound old all) where
  stamped_there : AddsStamp old new bound d false → more ≡ all ++ [] → IsPushedAs bound new more (with_new all d)
  stamped_there h is = let there : has all d ≡ true = sym (was.same d) ∙ h.was lt refl in let same : more ≡ all = is ∙ append-nil all in record {
    stamped = record {
      counted = h.counted;
      same = λ e. one_test (is_stamped new e) (has all e) (has all e ≡ true) (λ k. ⊎_elim (λ a. sym (was.same e) ∙ a) (λ e_is. subst (λ e. has all e ≡ true) e_is there) (h.out e k), λ k. h.kept e (was.same e ∙ k)) (λ k. k, λ k. k) ∙ ap (λ xs. has xs e) (sym same);
    };
    is = same ∙ sym (cond-true (has all d) all (all ++ d ∷ []) there);
  }

  stamped_fresh : AddsStamp old new bound d true → more ≡ all ++ d ∷ [] → IsPushedAs bound new more (with_new all d)
  stamped_fresh h is = let fresh = h.new_one refl in let not_there : has all d ≡ false = sym (was.same d) ∙ fresh.0 in record {
    stamped = record {
      counted = h.counted;
      same = λ e. one_test (is_stamped new e) (has (all ++ d ∷ []) e) (has (all ++ d ∷ []) e ≡ true) (
        λ k. (has_push all d e).1 (⊎_elim (λ a. inl (sym (was.same e) ∙ a)) (λ same. inr same) (h.out e k)),
        λ k. ⊎_elim (λ a. h.kept e (was.same e ∙ a)) (λ same. subst (λ e. is_stamped new e ≡ true) same fresh.1) ((has_push all d e).0 k),
      ) (λ k. k, λ k. k) ∙ ap (λ xs. has xs e) (sym is);
    };
    is = is ∙ sym (cond-false (has all d) all (all ++ d ∷ []) not_there);
  }

  pub stamped_new : (is_new : Bool) → AddsStamp old new bound d is_new → more ≡ all ++ if_such is_new d → IsPushedAs bound new more (with_new all d)
  stamped_new true h is = stamped_fresh h is
  stamped_new false h is = stamped_there h is

-- ---- a list behind another

module _ (bound : ℕ) where
  pub pushing_start : (stamps : Stamps) (all some : List ℕ) → IsStampedAs bound stamps all → AreBelow bound some → IsPushingEach bound stamps all some (with_each all some)
  pushing_start stamps all some h below = record { stamped = h; rest_is = refl; below = below }

  pub pushing_item : (stamps : Stamps) (all rest more target : List ℕ) (d : ℕ) → more ≡ d ∷ rest → IsPushingEach bound stamps all more target → d < bound
  pushing_item stamps all rest more target d is h = h.below.each d (first_in d rest more is)

  pub pushing_next : (old new : Stamps) (all now rest more target : List ℕ) (d : ℕ) → more ≡ d ∷ rest → IsPushingEach bound old all more target → IsPushedAs bound new now (with_new all d)
      → IsPushingEach bound new now rest target
  pushing_next old new all now rest more target d is h added = record {
    stamped = added.stamped;
    rest_is = ap (λ xs. with_each xs rest) added.is ∙ (ap (λ xs. with_each all xs) (sym is) ∙ h.rest_is);
    below = record { each = λ e k. h.below.each e (rest_in d e rest more is k) };
  }

  pub pushing_end : (stamps : Stamps) (all rest target : List ℕ) → rest ≡ [] → IsPushingEach bound stamps all rest target → IsPushedAs bound stamps all target
  pushing_end stamps all rest target none h = record { stamped = h.stamped; is = ap (λ xs. with_each all xs) (sym none) ∙ h.rest_is }
