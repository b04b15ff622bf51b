-- Tables of a function, and the last entry under a key.
use Rattle.std.proofs.Common.{◌≡◌, refl, sym, ◌∙◌, ap, ap₂, subst, ⊎_elim, arith, ℕ, zero, suc, ◌<◌, ◌≤◌, ◌^◌, Bool, ◌&&◌, cond, List, [], ◌∷◌, ◌++◌, length, get_or, Option, Some, None, length-append, append_assoc, append-nil, true, false}
use Rattle.std.specs.Prelude.{IfSome}
use Rattle.std.proofs.Math.Seq.{get_or-append_seam}
use Rattle.std.proofs.Math.ListN.{get_or-append}
use Rattle.std.proofs.lemmas.Bool.{cases_eq, and_parts}
use Rattle.std.proofs.lemmas.Bool.Decides.{Decides-eqb}
use Rattle.std.specs.Prelude.{nat_eq}
use Rattle.std.specs.HashMap.{HashMap, get}
use Rattle.jr_plain.specs.Search.{last_below}
use Rattle.jr_places.specs.declared.chains.Entry.{Entry}
use Rattle.jr_places.specs.Tabulated.{tabulated}
use Rattle.jr_places.specs.Chains.{entry_at, is_under, last_under, last_like, rows_under, rows_from, places_to, same_pair, IsChained, WalkedTo}

pub length-tabulated : {A : Type 0} (f : ℕ → A) (n : ℕ) → length (tabulated f n) ≡ n
length-tabulated f zero = refl
length-tabulated f (suc n) = let s = length-append (tabulated f n) (f n ∷ []) in let h = length-tabulated f n in omega arith

-- what the table has at a number
pub tabulated_at : {A : Type 0} (f : ℕ → A) (d : A) (n k : ℕ) → k < n → get_or (tabulated f n) k d ≡ f k
tabulated_at f d zero k lt = absurd (omega arith)
tabulated_at f d (suc n) k lt = let s = length-tabulated f n in ⊎_elim
    (λ e. subst (λ j. get_or (tabulated f n ++ f n ∷ []) j d ≡ f k) (s ∙ sym e) (get_or-append_seam (tabulated f n) (f n) [] d ∙ ap f (sym e)))
    (λ apart. get_or-append (tabulated f n) (f n ∷ []) d k (omega arith) ∙ tabulated_at f d n k (omega arith))
    (cases_eq k n)

-- tables of functions that agree below a number
pub tabulated_same : {A : Type 0} (f g : ℕ → A) (n : ℕ) → ((k : ℕ) → k < n → f k ≡ g k) → tabulated f n ≡ tabulated g n
tabulated_same f g zero same = refl
tabulated_same f g (suc n) same = ap₂ (λ xs x. xs ++ x ∷ []) (tabulated_same f g n (λ k lt. same k (omega arith))) (same n (omega arith))

-- tests that agree below a number
pub last_same : (f g : ℕ → Bool) (n : ℕ) → ((k : ℕ) → k < n → f k ≡ g k) → last_below n f ≡ last_below n g
last_same f g zero same = refl
last_same f g (suc n) same = ap₂ (λ b before. cond b (Some n) before) (same n (omega arith)) (last_same f g n (λ k lt. same k (omega arith)))

no_entry : Entry
no_entry = record { first = 0; second = 0; row = 0 }

module _ (all : List Entry) (e : Entry) where
  entry_kept : (k : ℕ) → k < length all → entry_at (all ++ e ∷ []) k ≡ entry_at all k
  entry_kept k lt = get_or-append all (e ∷ []) (record { first = 0; second = 0; row = 0 }) k lt

  entry_new : entry_at (all ++ e ∷ []) (length all) ≡ e
  entry_new = get_or-append_seam all e [] (record { first = 0; second = 0; row = 0 })

  under_kept : (first second n : ℕ) → n ≤ length all → last_under (all ++ e ∷ []) first second n ≡ last_under all first second n
  under_kept first second n le = last_same _ _ n (λ k lt. ap (λ x. nat_eq x.first first && nat_eq x.second second) (entry_kept k (omega arith)))

  like_kept : (k : ℕ) → k < length all → last_like (all ++ e ∷ []) k ≡ last_like all k
  like_kept k lt = ap (λ x. last_under (all ++ e ∷ []) x.first x.second k) (entry_kept k lt) ∙ under_kept (entry_at all k).first (entry_at all k).second k (omega arith)

  like_new : last_like (all ++ e ∷ []) (length all) ≡ last_under all e.first e.second (length all)
  like_new = ap (λ x. last_under (all ++ e ∷ []) x.first x.second (length all)) entry_new ∙ under_kept e.first e.second (length all) (omega arith)

  one_more : length (all ++ e ∷ []) ≡ suc (length all)
  one_more = let s = length-append all (e ∷ []) in omega arith

  under_new : (first second : ℕ) → last_under (all ++ e ∷ []) first second (suc (length all)) ≡ cond (nat_eq e.first first && nat_eq e.second second) (Some (length all)) (last_under all first second (length all))
  under_new first second = ap₂ (λ b before. cond b (Some (length all)) before) (ap (λ x. nat_eq x.first first && nat_eq x.second second) entry_new) (under_kept first second (length all) (omega arith))

-- one more entry
module _ {S : Type 0} (all : List Entry) (e : Entry) (last later : HashMap (ℕ × ℕ) ℕ S) (before : List (Option ℕ)) (earlier : Option ℕ) (at : ℕ) where
  chained_more : IsChained all last before → suc (length all) < 2 ^ 32 → at ≡ length all
      → ((q : ℕ × ℕ) → get same_pair later q ≡ cond (same_pair (e.first, e.second) q) (Some at) (get same_pair last q))
      → earlier ≡ get same_pair last (e.first, e.second) → IsChained (all ++ e ∷ []) later (before ++ earlier ∷ [])
  chained_more h few here updates was = record {
    few = let s = one_more all e in omega arith;
    found = λ first second. updates (first, second) ∙ ap₂ (λ n o. cond (nat_eq e.first first && nat_eq e.second second) (Some n) o) here (h.found first second)
        ∙ sym (under_new all e first second) ∙ ap (last_under (all ++ e ∷ []) first second) (sym (one_more all e));
    linked = ap₂ (λ xs x. xs ++ x ∷ []) (h.linked ∙ sym (tabulated_same _ _ (length all) (like_kept all e))) (was ∙ h.found e.first e.second ∙ sym (like_new all e))
        ∙ ap (tabulated (last_like (all ++ e ∷ []))) (sym (one_more all e));
  }

  -- where the lists are what was pushed
  pub chained_push : (more : List Entry) (linked : List (Option ℕ)) → IsChained all last before → suc (length all) < 2 ^ 32 → at ≡ length all
      → ((q : ℕ × ℕ) → get same_pair later q ≡ cond (same_pair (e.first, e.second) q) (Some at) (get same_pair last q))
      → earlier ≡ get same_pair last (e.first, e.second) → more ≡ all ++ e ∷ [] → linked ≡ before ++ earlier ∷ [] → IsChained more later linked
  chained_push more linked h few here updates was a b = subst (λ xs. IsChained xs later linked) (sym a) (subst (λ ys. IsChained (all ++ e ∷ []) later ys) (sym b) (chained_more h few here updates was))

-- what is linked at a place
pub linked_at : {S : Type 0} (all : List Entry) (last : HashMap (ℕ × ℕ) ℕ S) (before : List (Option ℕ)) (k : ℕ) (d : Option ℕ) → IsChained all last before → k < length all → get_or before k d ≡ last_like all k
linked_at all last before k d h lt = ap (λ xs. get_or xs k d) h.linked ∙ tabulated_at (last_like all) d (length all) k lt

pub length_linked : {S : Type 0} (all : List Entry) (last : HashMap (ℕ × ℕ) ℕ S) (before : List (Option ℕ)) → IsChained all last before → length before ≡ length all
length_linked all last before h = ap length h.linked ∙ length-tabulated (last_like all) (length all)

-- ---- the rows under a key

module _ (all : List Entry) (first second : ℕ) where
  -- the last place is under the key, and before it stands the rest
  abbrev IsPlace : ℕ → Option ℕ → Type 0
  IsPlace n at = IfSome at (λ k. (k < n) × (is_under all first second k ≡ true))

  wider : (n : ℕ) (at : Option ℕ) → IsPlace n at → IsPlace (suc n) at
  wider n None h = h
  wider n (Some k) h = let lt = h.0 in (omega arith, h.1)

  one_place : (n : ℕ) (b : Bool) (at : Option ℕ) → is_under all first second n ≡ b → IsPlace n at → IsPlace (suc n) (cond b (Some n) at)
  one_place n true at e h = (omega arith, e)
  one_place n false at e h = wider n at h

  last_is : (n : ℕ) → IsPlace n (last_under all first second n)
  last_is zero = tt
  last_is (suc n) = one_place n (is_under all first second n) (last_under all first second n) refl (last_is n)

  one_row : (n : ℕ) (b : Bool) (at : Option ℕ) (more : List ℕ) → (b ≡ true → more ≡ rows_under all first second n) → rows_from all first second at ≡ more
      → rows_from all first second (cond b (Some n) at) ≡ cond b ((entry_at all n).row ∷ more) more
  one_row n true at more e h = ap (λ xs. (entry_at all n).row ∷ xs) (sym (e refl))
  one_row n false at more e h = h

  rows_last : (n : ℕ) → rows_from all first second (last_under all first second n) ≡ rows_under all first second n
  rows_last zero = refl
  rows_last (suc n) = one_row n (is_under all first second n) (last_under all first second n) (rows_under all first second n) (λ e. refl) (rows_last n)

  key_is : (n : ℕ) → is_under all first second n ≡ true → last_like all n ≡ last_under all first second n
  key_is n h = let k = and_parts (nat_eq (entry_at all n).first first) (nat_eq (entry_at all n).second second) h in
      ap₂ (λ a b. last_under all a b n) ((Decides-eqb (entry_at all n).first first).0 k.0) ((Decides-eqb (entry_at all n).second second).0 k.1)

pub walked_start : (all : List Entry) (first second : ℕ) (at : Option ℕ) (done : List ℕ) → at ≡ last_under all first second (length all) → done ≡ [] → WalkedTo all first second at done
walked_start all first second at done e none = subst (λ at. WalkedTo all first second at done) (sym e) (record {
  here = last_is all first second (length all);
  rest = ap (λ xs. xs ++ rows_from all first second (last_under all first second (length all))) none ∙ rows_last all first second (length all);
})

inside : (all : List Entry) (first second n : ℕ) (at : Option ℕ) → n ≤ length all → IfSome at (λ k. (k < n) × (is_under all first second k ≡ true)) → IfSome at (λ k. (k < length all) × (is_under all first second k ≡ true))
inside all first second n None le h = h
inside all first second n (Some k) le h = let lt = h.0 in (omega arith, h.1)

at_most : (P : ℕ → Type 0) (n : ℕ) (at : Option ℕ) → IfSome at (λ k. (k < n) × P k) → places_to at ≤ n
at_most P n None h = omega arith
at_most P n (Some k) h = let lt = h.0 in omega arith

-- the place before one
pub place_falls : (all : List Entry) (n : ℕ) (at was : Option ℕ) → at ≡ last_like all n → was ≡ Some n → places_to at < places_to was
place_falls all n at was e f =
    let below = at_most _ n (last_like all n) (last_is all (entry_at all n).first (entry_at all n).second n) in let same = ap places_to e in let old = ap places_to f in omega arith

pub walked_more : {all : List Entry} {first second : ℕ} {was : Option ℕ} {done : List ℕ} (n row : ℕ) (at : Option ℕ) (more : List ℕ) → WalkedTo all first second was done → was ≡ Some n → at ≡ last_like all n
    → row ≡ (entry_at all n).row → more ≡ done ++ row ∷ [] → WalkedTo all first second at more
walked_more {all = all} {first = first} {second = second} {was = was} {done = done} n row at more old is e named pushed =
    let h = subst (λ was. WalkedTo all first second was done) is old in
    let same = e ∙ key_is all first second n h.here.1 in let lt = h.here.0 in subst (λ at. WalkedTo all first second at more) (sym same) (record {
      here = inside all first second n (last_under all first second n) (omega arith) (last_is all first second n);
      rest = ap₂ (λ xs ys. xs ++ ys) (pushed ∙ ap (λ row. done ++ row ∷ []) named) (rows_last all first second n) ∙ append_assoc done ((entry_at all n).row ∷ []) (rows_under all first second n) ∙ h.rest;
    })

pub walked_done : {all : List Entry} {first second : ℕ} {done : List ℕ} → WalkedTo all first second None done → done ≡ rows_under all first second (length all)
walked_done {done = done} h = sym (append-nil done) ∙ h.rest
