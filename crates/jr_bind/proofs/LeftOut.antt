-- Numbers on no round are left out one after the other, and the first on a round is found.
use Rattle.std.proofs.Common.{◌≡◌, ◌⊎◌, refl, sym, ◌∙◌, ap, ap₂, subst, inl, inr, ⊎_elim, arith, ℕ, zero, suc, ◌+◌, ◌-◌, ◌<◌, ◌≤◌, Bool, true, false, cond, not, ◌&&◌, ◌||◌, List, [], ◌∷◌, ◌++◌, length, add-one, append-nil, replicate, slice_get, Option, Some, None, nat_eq, slice_set}
use Rattle.std.proofs.lemmas.Bool.{false≢true, cases_eq, cases_lt, cases_Bool, false_from_ne_true, and_parts}
use Rattle.std.proofs.lemmas.Bool.Decides.{Decides-eqb}
use Rattle.std.proofs.lemmas.List.{length-set}
use Rattle.std.proofs.lemmas.Option.{none-some, same_Some}
use Rattle.jr_plain.specs.Search.{has, Reaches, Finds}
use Rattle.jr_places.specs.declared.chains.Entry.{Entry}
use Rattle.jr_places.specs.declared.stamps.Stamps.{Stamps}
use Rattle.jr_places.specs.Stamps.{is_stamped, IsEmptied}
use Rattle.jr_places.specs.Chains.{entry_at, is_under, rows_under}
use Rattle.jr_members.specs.Each.{StandOnce}
use Rattle.jr_members.proofs.Each.{has_push, has_front}
use Rattle.jr_dispatch.proofs.Spreading.{stamped_below}
use Rattle.jr_bind.specs.Rounds.{next_of, IsEdgeIn, IsOnRound, IsFirstOnRound, AreEdges, PutsOne, count_at, counted_by, edges_to, occurrences, AreEnough, IsTaking, IsLeaving, AreCounts}
use Rattle.jr_bind.proofs.Reached.{not_stamped}

-- ---- entries

pub no_entry : (all : List Entry) (n : ℕ) → slice_get all n ≡ None → entry_at all n ≡ record { first = 0; second = 0; row = 0 }
no_entry [] n e = refl
no_entry (x ∷ xs) zero e = absurd (none-some x (sym e))
no_entry (x ∷ xs) (suc n) e = no_entry xs n e

-- ---- rounds

last_step : {E : ℕ → ℕ → Type 0} (a b : ℕ) → Reaches E a b → (y : ℕ) × E y b × ((a ≡ y) ⊎ Reaches E a y)
last_step a b (Reaches.direct e) = (a, e, inl refl)
last_step {E} a b (Reaches.further {r = r} e way) = let w = last_step r b way in
    (w.0, w.1, inr (⊎_elim (λ same. Reaches.direct (subst (E a) same e)) (λ more. Reaches.further e more) w.2))

first_edge : {E : ℕ → ℕ → Type 0} (a b : ℕ) → Reaches E a b → (y : ℕ) × E a y
first_edge a b (Reaches.direct e) = (b, e)
first_edge a b (Reaches.further {r = r} e way) = (r, e)

module _ (edges : List Entry) where
  -- an edge from a number on a round leads to one that is on a round
  before : (x : ℕ) → IsOnRound edges x → (y : ℕ) × IsEdgeIn edges y x × IsOnRound edges y
  before x r = let w = last_step x x r in (w.0, w.1, ⊎_elim (λ same. subst (IsOnRound edges) same r) (λ way. Reaches.further w.1 way) w.2)

-- ---- edges to a number

under_first : (edges : List Entry) (y n : ℕ) → is_under edges y 0 n ≡ true → (entry_at edges n).first ≡ y
under_first edges y n e = (Decides-eqb (entry_at edges n).first y).0 ((and_parts (nat_eq (entry_at edges n).first y) (nat_eq (entry_at edges n).second 0) e).0)

-- an edge from y stands at a place
place_of : (edges : List Entry) (y x n : ℕ) → has (rows_under edges y 0 n) x ≡ true → (k : ℕ) × (k < n) × ((entry_at edges k).first ≡ y)
place_of edges y x zero at = absurd (false≢true at)
place_of edges y x (suc n) at = by (is_under edges y 0 n) refl at (place_of edges y x n)
  where
    by : (b : Bool) → is_under edges y 0 n ≡ b → has (cond b ((entry_at edges n).row ∷ rows_under edges y 0 n) (rows_under edges y 0 n)) x ≡ true
        → (has (rows_under edges y 0 n) x ≡ true → (k : ℕ) × (k < n) × ((entry_at edges k).first ≡ y)) → (k : ℕ) × (k < suc n) × ((entry_at edges k).first ≡ y)
    by true e h more = (n, omega arith, under_first edges y n e)
    by false e h more = let w = more h in (w.0, (let lt = w.1 in omega arith), w.2)

abbrev bit : Bool → ℕ
bit b = cond b 1 0

counted_one : (left : List ℕ) (x : ℕ) (e : Entry) → e.row ≡ x → has left e.first ≡ false → counted_by left x e ≡ 1
counted_one left x e same out = ap₂ (λ a b. bit (a && not b)) ((Decides-eqb e.row x).1 same) out

one_edge : (edges : List Entry) (left : List ℕ) (y x n : ℕ) → has (rows_under edges y 0 n) x ≡ true → has left y ≡ false → 1 ≤ edges_to edges left x n
one_edge edges left y x zero at out = absurd (false≢true at)
one_edge edges left y x (suc n) at out = by (is_under edges y 0 n) refl at (λ h. one_edge edges left y x n h out)
  where
    by : (b : Bool) → is_under edges y 0 n ≡ b → has (cond b ((entry_at edges n).row ∷ rows_under edges y 0 n) (rows_under edges y 0 n)) x ≡ true
        → (has (rows_under edges y 0 n) x ≡ true → 1 ≤ edges_to edges left x n) → 1 ≤ counted_by left x (entry_at edges n) + edges_to edges left x n
    by true e h more = ⊎_elim (λ same. let one = counted_one left x (entry_at edges n) same (subst (λ z. has left z ≡ false) (sym (under_first edges y n e)) out) in omega arith)
        (λ a. let le = more a in omega arith) (has_front (entry_at edges n).row x (rows_under edges y 0 n) h)
    by false e h more = let le = more h in omega arith

-- one to which no edge leads but from those on no round is on none
none_to : (edges : List Entry) (left : List ℕ) (x : ℕ) → edges_to edges left x (length edges) ≡ 0 → ((y : ℕ) → has left y ≡ true → IsOnRound edges y → ⊥) → IsOnRound edges x → ⊥
none_to edges left x none out r = let w = before edges x r in
    ⊎_elim (λ at. out w.0 at w.2) (λ at. let le = one_edge edges left w.0 x (length edges) w.1 at in absurd (omega arith)) (cases_Bool (has left w.0))

-- ---- one more is left out

module _ (edges : List Entry) (left : List ℕ) (a x : ℕ) (fresh : has left a ≡ false) where
  counted_less : (e : Entry) → counted_by (a ∷ left) x e ≤ counted_by left x e
  counted_less e = by (nat_eq e.row x) (nat_eq a e.first) (has left e.first)
    where
      by : (same is has' : Bool) → bit (same && not (is || has')) ≤ bit (same && not has')
      by true true true = omega arith
      by true true false = omega arith
      by true false true = omega arith
      by true false false = omega arith
      by false is has' = omega arith

  counted_own : (e : Entry) → e.first ≡ a → (counted_by (a ∷ left) x e ≡ 0) × (counted_by left x e ≡ bit (nat_eq e.row x))
  counted_own e same = (
    ap (λ b. bit (nat_eq e.row x && not (b || has left e.first))) ((Decides-eqb a e.first).1 (sym same)) ∙ never (nat_eq e.row x),
    ap (λ b. bit (nat_eq e.row x && not b)) (subst (λ z. has left z ≡ false) (sym same) fresh) ∙ always (nat_eq e.row x),
  )
    where
      never : (b : Bool) → bit (b && false) ≡ 0
      never true = refl
      never false = refl

      always : (b : Bool) → bit (b && true) ≡ bit b
      always true = refl
      always false = refl

  left_more : (n : ℕ) → edges_to edges (a ∷ left) x n + occurrences (rows_under edges a 0 n) x ≤ edges_to edges left x n
  left_more zero = omega arith
  left_more (suc n) = by (is_under edges a 0 n) refl (left_more n)
    where
      e : Entry
      e = entry_at edges n

      by : (b : Bool) → is_under edges a 0 n ≡ b → edges_to edges (a ∷ left) x n + occurrences (rows_under edges a 0 n) x ≤ edges_to edges left x n
          → counted_by (a ∷ left) x (entry_at edges n) + edges_to edges (a ∷ left) x n + occurrences (cond b ((entry_at edges n).row ∷ rows_under edges a 0 n) (rows_under edges a 0 n)) x ≤ counted_by left x (entry_at edges n) + edges_to edges left x n
      by true is le = let own = counted_own (entry_at edges n) (under_first edges a n is) in let zero' = own.0 in let one = own.1 in omega arith
      by false is le = let less = counted_less (entry_at edges n) in omega arith

-- ---- counts

count_same : (xs : List ℕ) (i v : ℕ) → i < length xs → count_at (slice_set xs i v) i ≡ v
count_same [] i v lt = absurd (omega arith)
count_same (x ∷ xs) zero v lt = refl
count_same (x ∷ xs) (suc i) v lt = count_same xs i v (omega arith)

count_other : (xs : List ℕ) (i j v : ℕ) → (i ≡ j → ⊥) → count_at (slice_set xs i v) j ≡ count_at xs j
count_other [] i j v apart = refl
count_other (x ∷ xs) zero zero v apart = absurd (apart refl)
count_other (x ∷ xs) zero (suc j) v apart = refl
count_other (x ∷ xs) (suc i) zero v apart = refl
count_other (x ∷ xs) (suc i) (suc j) v apart = count_other xs i j v (λ e. apart (ap suc e))

count_past : (xs : List ℕ) (i : ℕ) → length xs ≤ i → count_at xs i ≡ 0
count_past [] i le = refl
count_past (x ∷ xs) zero le = absurd (omega arith)
count_past (x ∷ xs) (suc i) le = count_past xs i (omega arith)

pub no_counts : (bound : ℕ) → length {A = ℕ} (replicate bound 0) ≡ bound
no_counts zero = refl
no_counts (suc n) = ap suc (no_counts n)

pub enough_none : (edges : List Entry) (counts : List ℕ) → AreEnough edges [] [] counts 0
enough_none edges counts = record { each = λ x lt. omega arith }

counted_at : (edges : List Entry) (n x : ℕ) → counted_by [] x (entry_at edges n) ≡ bit (nat_eq (entry_at edges n).row x)
counted_at edges n x = by (nat_eq (entry_at edges n).row x)
  where
    by : (b : Bool) → bit (b && true) ≡ bit b
    by true = refl
    by false = refl

-- one edge more is counted
pub enough_more : (edges : List Entry) (old new : List ℕ) (n at : ℕ) → at ≡ (entry_at edges n).row → new ≡ slice_set old at (count_at old at + 1) → AreEnough edges [] [] old n → AreEnough edges [] [] new (n + 1)
enough_more edges old new n at is made h = subst (λ m. AreEnough edges [] [] new m) (sym (add-one n)) (subst (λ xs. AreEnough edges [] [] xs (suc n)) (sym made) (record { each = each }))
  where
    size : length (slice_set old at (count_at old at + 1)) ≡ length old
    size = length-set old at (count_at old at + 1)

    each : (x : ℕ) → x < length (slice_set old at (count_at old at + 1)) → counted_by [] x (entry_at edges n) + edges_to edges [] x n + 0 ≤ count_at (slice_set old at (count_at old at + 1)) x
    each x lt = let inside : x < length old = omega (arith, size) in let le = h.each x inside in let c = counted_at edges n x in
        ⊎_elim (λ same. let hit : bit (nat_eq (entry_at edges n).row x) ≡ 1 = ap bit ((Decides-eqb (entry_at edges n).row x).1 (sym is ∙ same)) in
        let now : count_at (slice_set old at (count_at old at + 1)) x ≡ count_at old x + 1 = subst (λ z. count_at (slice_set old at (count_at old at + 1)) z ≡ count_at old z + 1) same (count_same old at (count_at old at + 1) (subst (λ z. z < length old) (sym same) inside)) in omega arith)
        (λ apart. let miss : bit (nat_eq (entry_at edges n).row x) ≡ 0 = ap bit (false_from_ne_true (nat_eq (entry_at edges n).row x) (λ e. apart (is ∙ (Decides-eqb (entry_at edges n).row x).0 e))) in
        let now = count_other old at x (count_at old at + 1) apart in omega arith) (cases_eq at x)

-- one edge of those that are to be taken away is
enough_less : (edges : List Entry) (left rest old new : List ℕ) (n at : ℕ) → new ≡ slice_set old at (count_at old at - 1) → AreEnough edges left (at ∷ rest) old n → AreEnough edges left rest new n
enough_less edges left rest old new n at made h = subst (λ xs. AreEnough edges left rest xs n) (sym made) (record { each = each })
  where
    size : length (slice_set old at (count_at old at - 1)) ≡ length old
    size = length-set old at (count_at old at - 1)

    each : (x : ℕ) → x < length (slice_set old at (count_at old at - 1)) → edges_to edges left x n + occurrences rest x ≤ count_at (slice_set old at (count_at old at - 1)) x
    each x lt = let inside : x < length old = omega (arith, size) in let le : edges_to edges left x n + (bit (nat_eq at x) + occurrences rest x) ≤ count_at old x = h.each x inside in
        ⊎_elim (λ same. let hit : bit (nat_eq at x) ≡ 1 = ap bit ((Decides-eqb at x).1 same) in
        let now : count_at (slice_set old at (count_at old at - 1)) x ≡ count_at old x - 1 = subst (λ z. count_at (slice_set old at (count_at old at - 1)) z ≡ count_at old z - 1) same (count_same old at (count_at old at - 1) (subst (λ z. z < length old) (sym same) inside)) in omega arith)
        (λ apart. let now = count_other old at x (count_at old at - 1) apart in omega arith) (cases_eq at x)

-- ---- a step

pub taking_lower : (edges : List Entry) (bound : ℕ) (met : Stamps) (left free rest old new : List ℕ) (at : ℕ) → new ≡ slice_set old at (count_at old at - 1) → IsTaking edges bound met left free (at ∷ rest) old → IsTaking edges bound met left free rest new
taking_lower edges bound met left free rest old new at made h = record {
  counted = h.counted;
  size = ap length made ∙ length-set old at (count_at old at - 1) ∙ h.size;
  enough = enough_less edges left rest old new (length edges) at made h.enough;
  out = h.out;
  next = h.next;
  left_met = h.left_met;
  free_met = h.free_met;
  once = h.once;
  apart = h.apart;
}

pub taking_put : (edges : List Entry) (bound : ℕ) (old new : Stamps) (left before after rest counts : List ℕ) (at : ℕ) → count_at counts at ≡ 0 → PutsOne bound at old new before after → IsTaking edges bound old left before rest counts
    → IsTaking edges bound new left after rest counts
taking_put edges bound old new left before after rest counts at zero' k h = record {
  counted = k.counted;
  size = h.size;
  enough = h.enough;
  out = h.out;
  next = λ x is. ⊎_elim (λ a. h.next x a) (λ a. on_none x a.0 a.1.1) (k.from x is);
  left_met = λ x is. k.met x (h.left_met x is);
  free_met = λ x is. ⊎_elim (λ a. k.met x (h.free_met x a)) (λ a. a.1.1) (k.from x is);
  once = k.once h.once h.free_met;
  apart = λ x is. ⊎_elim (λ a. h.apart x a) (λ a. false_from_ne_true (has left x) (λ in_left. not_stamped old x a.1.0 (h.left_met x in_left))) (k.from x is);
}
  where
    on_none : (x : ℕ) → at ≡ x → is_stamped new x ≡ true → IsOnRound edges x → ⊥
    on_none x same is = let inside : x < length counts = (let lt = stamped_below new bound x k.counted is in let size = h.size in omega arith) in
        let le = h.enough.each x inside in let none : count_at counts x ≡ 0 = subst (λ z. count_at counts z ≡ 0) same zero' in none_to edges left x (omega arith) h.out

pub taking_start : (edges : List Entry) (bound : ℕ) (met : Stamps) (left free counts all : List ℕ) (at : ℕ) → all ≡ next_of edges at → IsTaking edges bound met left (free ++ at ∷ []) [] counts → IsTaking edges bound met (at ∷ left) free all counts
taking_start edges bound met left free counts all at is h = subst (λ xs. IsTaking edges bound met (at ∷ left) free xs counts) (sym is) (record {
  counted = h.counted;
  size = h.size;
  enough = record { each = λ x lt. let le = h.enough.each x lt in let more = left_more edges left at x fresh (length edges) in omega arith };
  out = λ x in_left. ⊎_elim (λ same. h.next x (subst (λ z. has (free ++ at ∷ []) z ≡ true) same here)) (λ a. h.out x a) (has_front at x left in_left);
  next = λ x in_free. h.next x (there x in_free);
  left_met = λ x in_left. ⊎_elim (λ same. h.free_met x (subst (λ z. has (free ++ at ∷ []) z ≡ true) same here)) (λ a. h.left_met x a) (has_front at x left in_left);
  free_met = λ x in_free. h.free_met x (there x in_free);
  once = once_of free at h.once;
  apart = λ x in_free. false_from_ne_true (has (at ∷ left) x) (λ in_left. ⊎_elim (λ same. apart_of free at h.once (subst (λ z. has free z ≡ true) (sym same) in_free))
      (λ a. false≢true (sym (h.apart x (there x in_free)) ∙ a)) (has_front at x left in_left));
})
  where
    here : has (free ++ at ∷ []) at ≡ true
    here = (has_push free at at).1 (inr refl)

    there : (x : ℕ) → has free x ≡ true → has (free ++ at ∷ []) x ≡ true
    there x in_free = (has_push free at x).1 (inl in_free)

    fresh : has left at ≡ false
    fresh = h.apart at here

    once_of : (xs : List ℕ) (y : ℕ) → StandOnce (xs ++ y ∷ []) → StandOnce xs
    once_of [] y k = tt
    once_of (x ∷ xs) y k = (false_from_ne_true (has xs x) (λ is. false≢true (sym k.0 ∙ (has_push xs y x).1 (inl is))), once_of xs y k.1)

    apart_of : (xs : List ℕ) (y : ℕ) → StandOnce (xs ++ y ∷ []) → has xs y ≡ true → ⊥
    apart_of [] y k is = false≢true is
    apart_of (x ∷ xs) y k is = ⊎_elim (λ same. false≢true (sym k.0 ∙ (has_push xs y x).1 (inr (sym same)))) (λ more. apart_of xs y k.1 more) (has_front x y xs is)

pub taking_counts : (edges : List Entry) (bound : ℕ) (met : Stamps) (left free rest one other : List ℕ) → one ≡ other → IsTaking edges bound met left free rest one → IsTaking edges bound met left free rest other
taking_counts edges bound met left free rest one other same h = subst (λ xs. IsTaking edges bound met left free rest xs) same h

pub leaving_counts : (edges : List Entry) (bound : ℕ) (met : Stamps) (free one other : List ℕ) → one ≡ other → IsLeaving edges bound met free one → IsLeaving edges bound met free other
leaving_counts edges bound met free one other same h = (h.0, taking_counts edges bound met h.0 free [] one other same h.1)

pub leaving_none : (edges : List Entry) (bound : ℕ) (met : Stamps) (held free counts : List ℕ) → held ≡ free ++ [] → IsLeaving edges bound met held counts → IsLeaving edges bound met free counts
leaving_none edges bound met held free counts same h = (h.0, subst (λ xs. IsTaking edges bound met h.0 xs [] counts) (same ∙ append-nil free) h.1)

pub taking_as : (edges : List Entry) (bound : ℕ) (met : Stamps) (left free all rest counts : List ℕ) → all ≡ rest → IsTaking edges bound met left free all counts → IsTaking edges bound met left free rest counts
taking_as edges bound met left free all rest counts same h = subst (λ xs. IsTaking edges bound met left free xs counts) same h

-- the last one is left out
pub leaving_one : (edges : List Entry) (bound : ℕ) (old new : Stamps) (held free after before counts : List ℕ) (at : ℕ) → held ≡ free ++ at ∷ []
    → ((left : List ℕ) → IsTaking edges bound old left (free ++ at ∷ []) [] before → IsTaking edges bound new (at ∷ left) after [] counts) → IsLeaving edges bound old held before → IsLeaving edges bound new after counts
leaving_one edges bound old new held free after before counts at top step h = (at ∷ h.0, step h.0 (subst (λ xs. IsTaking edges bound old h.0 xs [] before) top h.1))

-- nothing is left out yet
pub leaving_start : (edges : List Entry) (bound : ℕ) (met : Stamps) (free counts : List ℕ) → IsEmptied met bound → free ≡ [] → length counts ≡ bound → AreEnough edges [] [] counts (length edges) → IsLeaving edges bound met free counts
leaving_start edges bound met free counts emptied none size enough = (
  [],
  subst (λ xs. IsTaking edges bound met [] xs [] counts) (sym none) (record {
    counted = emptied.counted;
    size = size;
    enough = enough;
    out = λ x is. absurd (false≢true is);
    next = λ x is. absurd (false≢true is);
    left_met = λ x is. absurd (false≢true is);
    free_met = λ x is. absurd (false≢true is);
    once = tt;
    apart = λ x is. absurd (false≢true is);
  }),
)

pub counts_tell : (edges : List Entry) (bound : ℕ) (met : Stamps) (free counts : List ℕ) → AreEdges edges bound → IsLeaving edges bound met free counts → AreCounts edges bound counts
counts_tell edges bound met free counts edges_are h = record { none = none }
  where
    none : (x : ℕ) → count_at counts x ≡ 0 → IsOnRound edges x → ⊥
    none x zero' r = let w = before edges x r in let size = h.1.size in let lt : x < length counts = (let below = edges_are.below w.0 x w.1 in omega arith) in
        let le = h.1.enough.each x lt in none_to edges h.0 x (omega arith) h.1.out r

-- ---- the first

-- none of the first n edges leads from a number on a round
pub record AreNone (edges : List Entry) (n : ℕ) : Type 0 where
  pub each : (k : ℕ) → k < n → IsOnRound edges (entry_at edges k).first → ⊥

pub none_start : (edges : List Entry) → AreNone edges 0
none_start edges = record { each = λ k lt. absurd (omega arith) }

pub none_next : (edges : List Entry) (n at : ℕ) → at ≡ (entry_at edges n).first → (IsOnRound edges at → ⊥) → AreNone edges n → AreNone edges (n + 1)
none_next edges n at is no' h = record {
  each = λ k lt. ⊎_elim (λ same. subst (λ z. IsOnRound edges (entry_at edges z).first → ⊥) (sym same) (subst (λ z. IsOnRound edges z → ⊥) is no')) (λ apart. h.each k (omega arith)) (cases_eq k n);
}

place_on : (edges : List Entry) (x : ℕ) → IsOnRound edges x → (k : ℕ) × (k < length edges) × ((entry_at edges k).first ≡ x)
place_on edges x r = let w = first_edge x x r in place_of edges x w.0 (length edges) w.1

same_of : (m n : ℕ) → m ≤ n → n ≤ m → m ≡ n
same_of m n a b = omega arith

pub first_found : (edges : List Entry) (bound n at : ℕ) (found : Option ℕ) → found ≡ Some at → at ≡ (entry_at edges n).first → AreEdges edges bound → AreNone edges n → IsOnRound edges at → n < length edges
    → Finds found (IsFirstOnRound edges)
first_found edges bound n at found e is edges_are none r lt = λ x. (λ f. subst (IsFirstOnRound edges) (same_Some at x (sym e ∙ f)) (r, least), λ h. e ∙ ap Some (same_of at x (least x h.0) (h.1 at r)))
  where
    least : (y : ℕ) → IsOnRound edges y → at ≤ y
    least y on = let w = place_on edges y on in ⊎_elim
        (λ early. absurd (none.each w.0 early (subst (IsOnRound edges) (sym w.2) on)))
        (λ late. let le = edges_are.rise n w.0 late w.1 in let here = w.2 in omega arith) (cases_lt w.0 n)

pub none_found : (edges : List Entry) (found : Option ℕ) → found ≡ None → AreNone edges (length edges) → Finds found (IsFirstOnRound edges)
none_found edges found e none = λ x. (λ f. absurd (none-some x (sym e ∙ f)), λ h. absurd (let w = place_on edges x h.0 in none.each w.0 w.1 (subst (IsOnRound edges) (sym w.2) h.0)))
