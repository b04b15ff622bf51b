-- What a search finds, once it is done, is all that chains lead to.
use Rattle.std.proofs.Common.{◌≡◌, ◌⊎◌, refl, subst, inl, inr, ⊎_elim, arith, ℕ, zero, suc, ◌+◌, Bool, true, false, if◌then◌else◌, List, [], ◌∷◌, ◌++◌, Decides}
use Rattle.std.specs.List.{Contains, list_all}
use Rattle.std.proofs.lemmas.Bool.{false≢true, or_cases, or_left, or_right}
use Rattle.std.proofs.lemmas.List.Elements.{Contains-append_left, Contains-append_right, Contains-append_cases, Contains-push, Contains-push_cases}
use Rattle.jr_plain.specs.Search.{among}
use Rattle.jr_plain.proofs.Tests.{like, both, either, never}
use Rattle.jr_plain.proofs.Searches.{every_item, among_append}
use Rattle.jr_flow_defs.specs.Computed.{Chain, begin, on, search, is_closed}

-- ---- the first item of a list, and the others

pub contains_out : {A : Type 0} (y : A) (ys : List A) (x : A) → Contains (y ∷ ys) x → (y ≡ x) ⊎ Contains ys x
contains_out y ys x h = ⊎_elim (λ one. ⊎_elim (λ none. absurd (omega (arith, none.1))) (λ e. inl e) (Contains-push_cases [] y x one)) (λ more. inr more) (Contains-append_cases (y ∷ []) ys x h)

pub contains_first : {A : Type 0} (y : A) (ys : List A) → Contains (y ∷ ys) y
contains_first y ys = Contains-append_left (y ∷ []) ys y (Contains-push [] y)

pub contains_more : {A : Type 0} (y : A) (ys : List A) (x : A) → Contains ys x → Contains (y ∷ ys) x
contains_more y ys x h = Contains-append_right (y ∷ []) ys x h

module _ {A : Type 0} (same : A → A → Bool) (tells : (a b : A) → Decides (same a b) (a ≡ b)) where
  pub contains_tells : (xs : List A) (x : A) → Decides (among same xs x) (Contains xs x)
  contains_tells [] x = like never (λ h. absurd h) (λ h. absurd (omega (arith, h.1)))
  contains_tells (y ∷ ys) x = like (either (tells y x) (contains_tells ys x))
      (⊎_elim (λ e. subst (Contains (y ∷ ys)) e (contains_first y ys)) (λ more. contains_more y ys x more)) (contains_out y ys x)

  module _ (next : A → List A) where
    -- each item is such
    abbrev All : (A → Type 0) → List A → Type 0
    All Q items = (a : A) → among same items a ≡ true → Q a

    one_more : (Q : A → Type 0) (x : A) (items : List A) → Q x → All Q items → All Q (x ∷ items)
    one_more Q x items q more a h = ⊎_elim (λ s. subst Q ((tells x a).0 s) q) (λ k. more a k) (or_cases (same x a) (among same items a) h)

    appended : (Q : A → Type 0) (xs ys : List A) → All Q xs → All Q ys → All Q (xs ++ ys)
    appended Q xs ys first second a h = ⊎_elim (λ k. first a k) (λ k. second a k) ((among_append same tells xs ys a).0 h)

    either_way : (Q : A → Type 0) (b : Bool) (xs ys : List A) → All Q xs → All Q ys → All Q (if b then xs else ys)
    either_way Q true xs ys first second = first
    either_way Q false xs ys first second = second

    of_first : (Q : A → Type 0) (x : A) (items : List A) → All Q (x ∷ items) → Q x
    of_first Q x items all = all x (or_left (same x x) (among same items x) ((tells x x).1 refl))

    of_more : (Q : A → Type 0) (x : A) (items : List A) → All Q (x ∷ items) → All Q items
    of_more Q x items all a h = all a (or_right (same x a) (among same items a) h)

    sound : (Q : A → Type 0) → ((a : A) → Q a → All Q (next a)) → (rounds : ℕ) (found waiting : List A) → All Q found → All Q waiting → All Q (search same next rounds found waiting)
    sound Q on_ zero found waiting f o = f
    sound Q on_ (suc rounds) found [] f o = f
    sound Q on_ (suc rounds) found (x ∷ waiting) f o = either_way Q (among same found x) (search same next rounds found waiting) (search same next rounds (x ∷ found) (next x ++ waiting))
        (sound Q on_ rounds found waiting f (of_more Q x waiting o))
        (sound Q on_ rounds (x ∷ found) (next x ++ waiting) (one_more Q x found (of_first Q x waiting o) f)
        (appended Q (next x) waiting (on_ x (of_first Q x waiting o)) (of_more Q x waiting o)))

    abbrev Closed : List A → List A → Type 0
    Closed first found = All (λ a. among same found a ≡ true) first × ((a : A) → among same found a ≡ true → All (λ b. among same found b ≡ true) (next a))

    closed_out : (first found : List A) → is_closed same next first found ≡ true → Closed first found
    closed_out first found h = let parts = (both (every_item same tells (among same found) first) (every_item same tells (λ a. list_all (among same found) (next a)) found)).0 h in
        (parts.0, λ a k. (every_item same tells (among same found) (next a)).0 (parts.1 a k))

    complete : (first found : List A) → Closed first found → (b : A) → Chain next first b → among same found b ≡ true
    complete first found closed b (begin c) = closed.0 b ((contains_tells first b).1 c)
    complete first found closed b (on {a} chain c) = closed.1 a (complete first found closed a chain) b ((contains_tells (next a) b).1 c)

    pub search_tells : (rounds : ℕ) (first : List A) → is_closed same next first (search same next rounds [] first) ≡ true
        → (b : A) → Decides (among same (search same next rounds [] first) b) (Chain next first b)
    search_tells rounds first closed b = (
      λ h. sound (Chain next first) (λ a chain c k. on chain ((contains_tells (next a) c).0 k)) rounds [] first (λ a k. absurd (false≢true k)) (λ a k. begin ((contains_tells first a).0 k)) b h,
      λ chain. complete first (search same next rounds [] first) (closed_out first (search same next rounds [] first) closed) b chain,
    )
