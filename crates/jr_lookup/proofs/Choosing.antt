-- The choice among what is applicable, a list at a time (JLS 15.12.2.5, 8.4.5).
use Rattle.std.proofs.Common.{◌≡◌, ◌⊎◌, refl, sym, ◌∙◌, ap, subst, inl, inr, ⊎_elim, arith, ℕ, ◌<◌, Bool, true, false, not, cond, ◌&&◌, ◌||◌, List, [], ◌∷◌, length, filter, Option, Some, None, nat_eq, nat_lt, slice_get}
use Rattle.std.specs.List.{list_all}
use Rattle.std.proofs.lemmas.Bool.{false≢true}
use Rattle.std.proofs.lemmas.Bool.Decides.{Decides-eqb, Decides-ltb}
use Rattle.std.proofs.lemmas.Option.{none-some, same_Some}
use Rattle.jr_tree.specs.Rows.{Rows, role_at}
use Rattle.jr_defs.specs.declared.referent.RowType.{RowType}
use Rattle.jr_defs.specs.Referents.{Table}
use Rattle.jr_defs.specs.Overloads.{Applicable, IsMostSpecific, Choice, ImportedChoice}
use Rattle.jr_plain.specs.Headed.{IsHeaded}
use Rattle.jr_plain.specs.Search.{has}
use Rattle.jr_plain.specs.Lists.{or_else}
use Rattle.jr_plain.specs.Modifiers.{is_abstract}
use Rattle.jr_plain.specs.Overloads.{is_applicable, applicable, is_more_specific, most_specific, is_result_fit, is_earlier, returning, firsts, first_returning, preferred, left_of, choice, most_specific_or_all, imported_choice}
use Rattle.jr_plain.proofs.Searches.{among_filter}
use Rattle.jr_plain.proofs.Overloaded.{applicable_list, most_specific_list, choice_list, imported_choice_list}
use Rattle.jr_supers.specs.Tabled.{is_callable}
use Rattle.jr_members.specs.declared.members.World.{World}
use Rattle.jr_members.specs.Each.{StandOnce, ListsEach}
use Rattle.jr_members.proofs.Each.{front_has, stand_filter}
use Rattle.jr_lookup.specs.Choices.{AreCandidates, IsAmong, better, best}
use Rattle.jr_lookup.proofs.Specific.{more_then, none_most, mosts_by_best}

-- ---- lists

pub filter_in : (test : ℕ → Bool) (all : List ℕ) (m : ℕ) → has (filter test all) m ≡ true → has all m ≡ true
filter_in test all m h = ((among_filter nat_eq Decides-eqb test all m).0 h).0

-- one item more passes, or does not, or all have
pub all_stop : (test : ℕ → Bool) (all rest more : List ℕ) (x : ℕ) (b : Bool) → more ≡ x ∷ rest → b ≡ test x → b ≡ false → list_all test more ≡ list_all test all → false ≡ list_all test all
all_stop test all rest more x b is such fails h = ap (λ c. c && list_all test rest) (sym fails ∙ such) ∙ sym (ap (list_all test) is) ∙ h

pub all_next : (test : ℕ → Bool) (all rest more : List ℕ) (x : ℕ) (b : Bool) → more ≡ x ∷ rest → b ≡ test x → b ≡ true → list_all test more ≡ list_all test all → list_all test rest ≡ list_all test all
all_next test all rest more x b is such holds h = ap (λ c. c && list_all test rest) (sym holds ∙ such) ∙ sym (ap (list_all test) is) ∙ h

pub all_end : (test : ℕ → Bool) (all rest : List ℕ) → rest ≡ [] → list_all test rest ≡ list_all test all → true ≡ list_all test all
all_end test all rest none h = sym (ap (list_all test) none) ∙ h

-- the best of one item more
pub best_next : (test : ℕ → ℕ → Bool) (target b next x : ℕ) (rest more : List ℕ) → more ≡ x ∷ rest → next ≡ better test b x → best test b more ≡ target → best test next rest ≡ target
best_next test target b next x rest more is now h = ap (λ y. best test y rest) now ∙ sym (ap (best test b) is) ∙ h

pub best_end : (test : ℕ → ℕ → Bool) (target b : ℕ) (rest : List ℕ) → rest ≡ [] → best test b rest ≡ target → b ≡ target
best_end test target b rest none h = sym (ap (best test b) none) ∙ h

pub better_such : (P : ℕ → Type 0) (test : ℕ → ℕ → Bool) (b x next : ℕ) → next ≡ better test b x → P b → P x → P next
better_such P test b x next is first second = subst P (sym is) (by (test b x))
  where
    by : (c : Bool) → P (cond c b x)
    by true = first
    by false = second

pub best_such : (P : ℕ → Type 0) (test : ℕ → ℕ → Bool) (b : ℕ) (xs : List ℕ) → P b → ((x : ℕ) → has xs x ≡ true → P x) → P (best test b xs)
best_such P test b [] first each = first
best_such P test b (x ∷ xs) first each = best_such P test (better test b x) xs (better_such P test b x (better test b x) refl first (each x (front x xs))) (λ y at. each y (behind x y xs at))
  where
    front : (y : ℕ) (rest : List ℕ) → has (y ∷ rest) y ≡ true
    front y rest = ap (λ b. b || has rest y) ((Decides-eqb y y).1 refl)

    behind : (y d : ℕ) (rest : List ℕ) → has rest d ≡ true → has (y ∷ rest) d ≡ true
    behind y d rest h = by (nat_eq y d)
      where
        by : (b : Bool) → (b || has rest d) ≡ true
        by true = refl
        by false = h

-- a list is empty, or not
pub is_none : (xs : List ℕ) (b : Bool) → b ≡ nat_eq (length xs) 0 → b ≡ true → xs ≡ []
is_none [] b is empty = refl
is_none (x ∷ xs) b is empty = let same = (Decides-eqb (length (x ∷ xs)) 0).0 (sym is ∙ empty) in absurd (omega (arith, same))

pub is_full : (xs : List ℕ) (b : Bool) → b ≡ nat_eq (length xs) 0 → b ≡ false → xs ≡ [] → ⊥
is_full xs b is some none = false≢true (sym some ∙ is ∙ (Decides-eqb (length xs) 0).1 (ap length none))

pub none_else : (first second : List ℕ) → first ≡ [] → second ≡ or_else first second
none_else first second none = sym (ap (λ xs. or_else xs second) none)

pub some_else : (first second : List ℕ) → (first ≡ [] → ⊥) → first ≡ or_else first second
some_else [] second some = absurd (some refl)
some_else (x ∷ xs) second some = refl

filter_one : (test : ℕ → Bool) (m : ℕ) → (filter test (m ∷ []) ≡ m ∷ []) ⊎ (filter test (m ∷ []) ≡ [])
filter_one test m = by (test m)
  where
    by : (b : Bool) → (cond b (m ∷ []) [] ≡ m ∷ []) ⊎ (cond b (m ∷ []) [] ≡ [])
    by true = inl refl
    by false = inr refl

else_to : (first second : List ℕ) (m : ℕ) → (first ≡ m ∷ []) ⊎ (first ≡ []) → second ≡ m ∷ [] → or_else first second ≡ m ∷ []
else_to first second m (inl e) k = ap (λ xs. or_else xs second) e
else_to first second m (inr e) k = ap (λ xs. or_else xs second) e ∙ k

-- the first item, where there is one
pub none_first : (xs : List ℕ) (found : Option ℕ) → found ≡ slice_get xs 0 → found ≡ None → xs ≡ []
none_first [] found is none = refl
none_first (x ∷ xs) found is none = absurd (none-some x (sym none ∙ is))

pub first_has : (xs : List ℕ) (found : Option ℕ) (first : ℕ) → found ≡ slice_get xs 0 → found ≡ Some first → has xs first ≡ true
first_has [] found first is some = absurd (none-some first (sym is ∙ some))
first_has (x ∷ xs) found first is some = subst (λ y. has (x ∷ xs) y ≡ true) (same_Some x first (sym is ∙ some)) (front_has x xs)

pub few_is : (xs seen : List ℕ) (b : Bool) → seen ≡ xs → b ≡ nat_lt (length seen) 2 → b ≡ true → length xs < 2
few_is xs seen b same is few = (Decides-ltb (length xs) 2).0 (sym (ap (λ ys. nat_lt (length ys) 2) same) ∙ (sym is ∙ few))

-- a list with no number twice has each of its items once
pub among : (all : List ℕ) → StandOnce all → ListsEach all (IsAmong all)
among all once = record { once = once; lists = λ m. (λ h. h, λ h. h) }

-- ---- candidates

module _ (t : Table) (world : World) where
  pub candidates_in : (all some : List ℕ) → AreCandidates t world all → ((m : ℕ) → has some m ≡ true → has all m ≡ true) → AreCandidates t world some
  candidates_in all some h inside = record { world_is = h.world_is; bare = h.bare; callable = λ m at. h.callable m (inside m at) }

  pub candidates_filter : (test : ℕ → Bool) (all some : List ℕ) → some ≡ filter test all → AreCandidates t world all → AreCandidates t world some
  candidates_filter test all some is h = candidates_in all some h (λ m at. filter_in test all m (subst (λ xs. has xs m ≡ true) is at))

  -- a most specific one, if there is one
  module _ (all : List ℕ) (h : AreCandidates t world all) where
    pub best_callable : (first b : ℕ) → has all first ≡ true → b ≡ best (is_more_specific world.under.rows.now t) first all → is_callable (role_at world.under.rows.now b) ≡ true
    best_callable first b there found = subst (λ m. is_callable (role_at world.under.rows.now m) ≡ true) (sym found)
        (best_such (λ m. is_callable (role_at world.under.rows.now m) ≡ true) (is_more_specific world.under.rows.now t) first all (h.callable first there) h.callable)

    chains : (m k l : ℕ) → is_more_specific world.under.rows.now t m k ≡ true → is_more_specific world.under.rows.now t k l ≡ true → is_more_specific world.under.rows.now t m l ≡ true
    chains = more_then world.under.rows.now t h.bare h.world_is.seen.above.well.headed

    pub worse_none : (first b : ℕ) (is : Bool) → b ≡ best (is_more_specific world.under.rows.now t) first all → is ≡ list_all (is_more_specific world.under.rows.now t b) all → is ≡ false
        → [] ≡ most_specific world.under.rows.now t all
    worse_none first b is found such fails = none_most (is_more_specific world.under.rows.now t) chains first all (ap (λ b. list_all (is_more_specific world.under.rows.now t b) all) (sym found) ∙ (sym such ∙ fails))

    pub best_mosts : (first b : ℕ) (is : Bool) (some : List ℕ) → has all first ≡ true → b ≡ best (is_more_specific world.under.rows.now t) first all → is ≡ list_all (is_more_specific world.under.rows.now t b) all → is ≡ true
        → some ≡ filter (λ m. is_more_specific world.under.rows.now t m b) all → some ≡ most_specific world.under.rows.now t all
    best_mosts first b is some there found such holds listed = listed ∙ (ap (λ b. filter (λ m. is_more_specific world.under.rows.now t m b) all) found
        ∙ mosts_by_best (is_more_specific world.under.rows.now t) chains first all there (ap (λ b. list_all (is_more_specific world.under.rows.now t b) all) (sym found) ∙ (sym such ∙ holds)))

module _ (p : Rows) (t : Table) where
  -- ---- what a list leaves

  module _ (c : ℕ) where
    pub preferred_first : (ms seen given left all : List ℕ) (b : Bool) → seen ≡ ms → given ≡ ms → left ≡ filter (λ m. not (is_abstract p m)) seen → b ≡ nat_eq (length left) 0 → b ≡ true
        → all ≡ first_returning p t c given → all ≡ preferred p t c ms
    preferred_first ms seen given left all b same also is such empty found = found ∙ (ap (first_returning p t c) also
        ∙ none_else (filter (λ m. not (is_abstract p m)) ms) (first_returning p t c ms) (sym (is ∙ ap (λ xs. filter (λ m. not (is_abstract p m)) xs) same) ∙ is_none left b such empty))

    pub preferred_left : (ms seen left : List ℕ) (b : Bool) → seen ≡ ms → left ≡ filter (λ m. not (is_abstract p m)) seen → b ≡ nat_eq (length left) 0 → b ≡ false → left ≡ preferred p t c ms
    preferred_left ms seen left b same is such some = let whole = is ∙ ap (λ xs. filter (λ m. not (is_abstract p m)) xs) same in
        whole ∙ some_else (filter (λ m. not (is_abstract p m)) ms) (first_returning p t c ms) (λ e. is_full left b such some (whole ∙ e))

    pub left_all : (all seen some left : List ℕ) (b : Bool) → seen ≡ all → some ≡ most_specific p t seen → left ≡ preferred p t c some → b ≡ nat_eq (length left) 0 → b ≡ true → all ≡ left_of p t c all
    left_all all seen some left b same is found such empty =
        none_else (preferred p t c (most_specific p t all)) all (sym (found ∙ ap (preferred p t c) (is ∙ ap (most_specific p t) same)) ∙ is_none left b such empty)

    pub left_some : (all seen some left : List ℕ) (b : Bool) → seen ≡ all → some ≡ most_specific p t seen → left ≡ preferred p t c some → b ≡ nat_eq (length left) 0 → b ≡ false → left ≡ left_of p t c all
    left_some all seen some left b same is found such full = let whole = found ∙ ap (preferred p t c) (is ∙ ap (most_specific p t) same) in
        whole ∙ some_else (preferred p t c (most_specific p t all)) all (λ e. is_full left b such full (whole ∙ e))

  -- what is chosen of what is applicable
  pub choice_is : (c o : ℕ) (receiver : Option RowType) (arguments : List RowType) (methods some left : List ℕ) → some ≡ applicable p t o receiver arguments methods → left ≡ left_of p t c some → left ≡ choice p t c o receiver arguments methods
  choice_is c o receiver arguments methods some left is found = found ∙ ap (left_of p t c) is

  pub most_all : (all seen left : List ℕ) (b : Bool) → seen ≡ all → left ≡ most_specific p t seen → b ≡ nat_eq (length left) 0 → b ≡ true → all ≡ most_specific_or_all p t all
  most_all all seen left b same is such empty = none_else (most_specific p t all) all (sym (is ∙ ap (most_specific p t) same) ∙ is_none left b such empty)

  pub most_some : (all seen left : List ℕ) (b : Bool) → seen ≡ all → left ≡ most_specific p t seen → b ≡ nat_eq (length left) 0 → b ≡ false → left ≡ most_specific_or_all p t all
  most_some all seen left b same is such full = let whole = is ∙ ap (most_specific p t) same in whole ∙ some_else (most_specific p t all) all (λ e. is_full left b such full (whole ∙ e))

  pub applicable_listed : IsHeaded p → (o : ℕ) (receiver : Option RowType) (arguments : List RowType) (S : ℕ → Type 0) (methods all : List ℕ) → all ≡ applicable p t o receiver arguments methods → ListsEach methods S
      → ListsEach all (Applicable p t o receiver arguments S)
  applicable_listed headed o receiver arguments S methods all is h = subst (λ xs. ListsEach xs (Applicable p t o receiver arguments S)) (sym is) (record {
    once = stand_filter (is_applicable p t o receiver arguments) methods h.once;
    lists = applicable_list p t headed o receiver arguments S methods h.lists;
  })

  pub most_listed : IsHeaded p → (A : ℕ → Type 0) (methods all : List ℕ) → all ≡ most_specific p t methods → ListsEach methods A → ListsEach all (IsMostSpecific p t A)
  most_listed headed A methods all is h = subst (λ xs. ListsEach xs (IsMostSpecific p t A)) (sym is) (record {
    once = stand_filter (λ m. list_all (λ k. is_more_specific p t m k) methods) methods h.once;
    lists = most_specific_list p t headed A methods h.lists;
  })

  -- ---- fewer than two

  module _ (c : ℕ) where
    first_one : (m : ℕ) → firsts p t c (m ∷ []) ≡ m ∷ []
    first_one m = ap (λ b. cond ((b || is_earlier p t c m m) && true) (m ∷ []) []) ((Decides-eqb m m).1 refl)

    first_returning_one : (m : ℕ) → first_returning p t c (m ∷ []) ≡ m ∷ []
    first_returning_one m = ⊎_elim (λ e. ap (λ xs. firsts p t c (or_else xs (m ∷ []))) e ∙ first_one m) (λ e. ap (λ xs. firsts p t c (or_else xs (m ∷ []))) e ∙ first_one m)
        (filter_one (λ m. list_all (λ k. is_result_fit p t m k) (m ∷ [])) m)

    preferred_one : (m : ℕ) → preferred p t c (m ∷ []) ≡ m ∷ []
    preferred_one m = else_to (filter (λ m. not (is_abstract p m)) (m ∷ [])) (first_returning p t c (m ∷ [])) m (filter_one (λ m. not (is_abstract p m)) m) (first_returning_one m)

    pub preferred_few : (xs : List ℕ) → length xs < 2 → xs ≡ preferred p t c xs
    preferred_few [] lt = refl
    preferred_few (m ∷ []) lt = sym (preferred_one m)
    preferred_few (m ∷ k ∷ more) lt = absurd (omega arith)

    pub left_few : (xs : List ℕ) → length xs < 2 → xs ≡ left_of p t c xs
    left_few [] lt = refl
    left_few (m ∷ []) lt = sym (else_to (preferred p t c (most_specific p t (m ∷ []))) (m ∷ []) m
        (⊎_elim (λ e. inl (ap (preferred p t c) e ∙ preferred_one m)) (λ e. inr (ap (preferred p t c) e)) (filter_one (λ k. list_all (λ j. is_more_specific p t k j) (m ∷ [])) m)) refl)
    left_few (m ∷ k ∷ more) lt = absurd (omega arith)

  pub most_few : (xs : List ℕ) → length xs < 2 → xs ≡ most_specific_or_all p t xs
  most_few [] lt = refl
  most_few (m ∷ []) lt = sym (else_to (most_specific p t (m ∷ [])) (m ∷ []) m (filter_one (λ k. list_all (λ j. is_more_specific p t k j) (m ∷ [])) m) refl)
  most_few (m ∷ k ∷ more) lt = absurd (omega arith)

  -- ---- each once

  stand_else : (first second : List ℕ) → StandOnce first → StandOnce second → StandOnce (or_else first second)
  stand_else [] second h k = k
  stand_else (x ∷ xs) second h k = h

  stand_most : (all : List ℕ) → StandOnce all → StandOnce (most_specific p t all)
  stand_most all h = stand_filter (λ m. list_all (λ k. is_more_specific p t m k) all) all h

  module _ (c : ℕ) where
    stand_firsts : (all : List ℕ) → StandOnce all → StandOnce (firsts p t c all)
    stand_firsts all h = stand_filter (λ m. list_all (λ k. nat_eq m k || is_earlier p t c m k) all) all h

    stand_preferred : (all : List ℕ) → StandOnce all → StandOnce (preferred p t c all)
    stand_preferred all h = stand_else (filter (λ m. not (is_abstract p m)) all) (first_returning p t c all) (stand_filter (λ m. not (is_abstract p m)) all h)
        (stand_firsts (or_else (returning p t all) all) (stand_else (returning p t all) all (stand_filter (λ m. list_all (λ k. is_result_fit p t m k) all) all h) h))

    stand_left : (all : List ℕ) → StandOnce all → StandOnce (left_of p t c all)
    stand_left all h = stand_else (preferred p t c (most_specific p t all)) all (stand_preferred (most_specific p t all) (stand_most all h)) h

    pub choice_listed : IsHeaded p → (o : ℕ) (receiver : Option RowType) (arguments : List RowType) (S : ℕ → Type 0) (methods all : List ℕ) → all ≡ choice p t c o receiver arguments methods → ListsEach methods S
        → ListsEach all (Choice p t c o receiver arguments S)
    choice_listed headed o receiver arguments S methods all is h = subst (λ xs. ListsEach xs (Choice p t c o receiver arguments S)) (sym is) (record {
      once = stand_left (applicable p t o receiver arguments methods) (stand_filter (is_applicable p t o receiver arguments) methods h.once);
      lists = choice_list p t headed c o receiver arguments S methods h.lists;
    })

  pub imported_listed : IsHeaded p → (o : ℕ) (arguments : List RowType) (S : ℕ → Type 0) (methods all : List ℕ) → all ≡ imported_choice p t o arguments methods → ListsEach methods S → ListsEach all (ImportedChoice p t o arguments S)
  imported_listed headed o arguments S methods all is h = let some = stand_filter (is_applicable p t o None arguments) methods h.once in subst (λ xs. ListsEach xs (ImportedChoice p t o arguments S)) (sym is) (record {
    once = stand_else (most_specific p t (applicable p t o None arguments methods)) (applicable p t o None arguments methods) (stand_most (applicable p t o None arguments methods) some) some;
    lists = imported_choice_list p t headed o arguments S methods h.lists;
  })
