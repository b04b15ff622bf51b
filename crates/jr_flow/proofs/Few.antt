-- A body that was explored has no more points than were counted.
use Rattle.std.proofs.Common.{◌≡◌, refl, sym, ◌∙◌, ap, subst, arith, ℕ, zero, suc, ◌+◌, ◌<◌, ◌≤◌, Bool, true, false, ◌||◌, List, [], ◌∷◌, length, map, Option, Some, None, option_map, slice_get}
use Rattle.std.proofs.Math.Dec.{eqb}
use Rattle.std.specs.List.{Contains, IsDistinct, AllByRecursion, list_any}
use Rattle.std.proofs.lemmas.Bool.{false≢true, eqb-true}
use Rattle.std.proofs.lemmas.Map.Steps.{length-le_from_distinct_below}
use Rattle.std.proofs.lemmas.Option.{none-some, same_Some, slice_get-map}
use Rattle.jr_tree.specs.Rows.{Rows}
use Rattle.jr_flow_defs.specs.declared.point.Point.{Point}
use Rattle.jr_flow_defs.specs.Meaning.{Meaning}
use Rattle.jr_flow_defs.specs.States.{State}
use Rattle.jr_flow_defs.specs.Edges.{body_flow, HasMorePoints}
use Rattle.jr_flow.specs.declared.states.States.{States}
use Rattle.jr_flow.specs.Coded.{IsTooLarge}
use Rattle.jr_flow.specs.Numbered.{count_points}
use Rattle.jr_flow.specs.Stated.{states_of, places_of, point_of, AreAllTurned}
use Rattle.jr_flow.specs.Walked.{hops_at}
use Rattle.jr_flow.proofs.Drawn.{explored}
use Rattle.jr_flow.proofs.Exploring.{has_place}
use Rattle.jr_flow.proofs.Linking.{among}
use Rattle.jr_flow.proofs.Stating.{stands_at}

-- ---- points in their order

-- how many points stand before a place
abbrev rank : List (Option Point) → ℕ → ℕ
rank [] k = 0
rank (o ∷ rest) zero = 0
rank (None ∷ rest) (suc k) = rank rest k
rank (Some x ∷ rest) (suc k) = suc (rank rest k)

rank_below : (found : List (Option Point)) (k : ℕ) (x : Point) → slice_get found k ≡ Some (Some x) → rank found k < count_points found
rank_below [] k x e = absurd (none-some (Some x) e)
rank_below (None ∷ rest) zero x e = absurd (none-some x (same_Some None (Some x) e))
rank_below (Some y ∷ rest) zero x e = omega arith
rank_below (None ∷ rest) (suc k) x e = rank_below rest k x e
rank_below (Some y ∷ rest) (suc k) x e = let lt = rank_below rest k x e in omega (arith, lt)

rank_once : (found : List (Option Point)) (i j : ℕ) (x y : Point) → slice_get found i ≡ Some (Some x) → slice_get found j ≡ Some (Some y) → rank found i ≡ rank found j → i ≡ j
rank_once [] i j x y e f g = absurd (none-some (Some x) e)
rank_once (None ∷ rest) zero j x y e f g = absurd (none-some x (same_Some None (Some x) e))
rank_once (None ∷ rest) (suc i) zero x y e f g = absurd (none-some y (same_Some None (Some y) f))
rank_once (None ∷ rest) (suc i) (suc j) x y e f g = ap suc (rank_once rest i j x y e f g)
rank_once (Some z ∷ rest) zero zero x y e f g = refl
rank_once (Some z ∷ rest) zero (suc j) x y e f g = absurd (omega (arith, g))
rank_once (Some z ∷ rest) (suc i) zero x y e f g = absurd (omega (arith, g))
rank_once (Some z ∷ rest) (suc i) (suc j) x y e f g = let less : rank rest i ≡ rank rest j = omega (arith, g) in ap suc (rank_once rest i j x y e f less)

-- a point stands at the place
abbrev pub IsAt : List (Option Point) → ℕ → Type 0
IsAt found k = (x : Point) × (slice_get found k ≡ Some (Some x))

unequal : (a b : ℕ) → (a ≡ b → ⊥) → eqb a b ≡ false
unequal a b apart = by (eqb a b) refl
  where
    by : (t : Bool) → eqb a b ≡ t → t ≡ false
    by true e = absurd (apart (eqb-true a b e))
    by false e = refl

module _ {A : Type 0} (found : List (Option Point)) (Q : A → ℕ → Type 0) where
  -- for each item of a list a place at which a point stands, and by which the item is told
  abbrev pub HavePlaces : List A → Type 0
  HavePlaces all = (i : ℕ) (a : A) → slice_get all i ≡ Some a → (k : ℕ) × IsAt found k × Q a k

  abbrev ranks : (all : List A) → HavePlaces all → List ℕ
  ranks [] h = []
  ranks (a ∷ all) h = rank found (h 0 a refl).0 ∷ ranks all (λ i b e. h (suc i) b e)

  ranks_length : (all : List A) (h : HavePlaces all) → length (ranks all h) ≡ length all
  ranks_length [] h = refl
  ranks_length (a ∷ all) h = ap suc (ranks_length all (λ i b e. h (suc i) b e))

  ranks_below : (all : List A) (h : HavePlaces all) (q : ℕ) → list_any (eqb q) (ranks all h) ≡ true → q < count_points found
  ranks_below [] h q e = absurd (false≢true e)
  ranks_below (a ∷ all) h q e = by (eqb q (rank found (h 0 a refl).0)) refl e (ranks_below all (λ i b f. h (suc i) b f) q)
    where
      by : (t : Bool) → eqb q (rank found (h 0 a refl).0) ≡ t → (t || list_any (eqb q) (ranks all (λ i b f. h (suc i) b f))) ≡ true → (list_any (eqb q) (ranks all (λ i b f. h (suc i) b f)) ≡ true → q < count_points found) → q < count_points found
      by true f g rest = let one = h 0 a refl in let same = eqb-true q (rank found one.0) f in let lt = rank_below found one.0 one.1.0 one.1.1 in omega (arith, same, lt)
      by false f g rest = rest g

  rank_away : (k : ℕ) (all : List A) (h : HavePlaces all) → ((j : ℕ) (b : A) (f : slice_get all j ≡ Some b) → rank found k ≡ rank found (h j b f).0 → ⊥) → AllByRecursion (λ y. eqb (rank found k) y ≡ false) (ranks all h)
  rank_away k [] h apart = tt
  rank_away k (b ∷ all) h apart = (unequal (rank found k) (rank found (h 0 b refl).0) (apart 0 b refl), rank_away k all (λ i c e. h (suc i) c e) (λ j c f. apart (suc j) c f))

  module _ (once : (a b : A) (k : ℕ) → Q a k → Q b k → a ≡ b) where
    ranks_apart : (all : List A) (h : HavePlaces all) → ((i j : ℕ) (a : A) → slice_get all i ≡ Some a → slice_get all j ≡ Some a → i ≡ j) → IsDistinct eqb (ranks all h)
    unfolding IsDistinct
    ranks_apart [] h apart = tt
    ranks_apart (a ∷ all) h apart = (
      rank_away (h 0 a refl).0 all (λ i c e. h (suc i) c e) (λ j b f same. let one = h 0 a refl in let other = h (suc j) b f in
          let at = rank_once found one.0 other.0 one.1.0 other.1.0 one.1.1 other.1.1 same in
          let is = once a b other.0 (subst (Q a) at one.2) other.2 in
          let no : 0 ≡ suc j = apart 0 (suc j) b (ap Some is) f in omega (arith, no)),
      ranks_apart all (λ i c e. h (suc i) c e) (λ i j b e f. let more = apart (suc i) (suc j) b e f in omega (arith, more)),
    )

    pub few : (all : List A) (h : HavePlaces all) → ((i j : ℕ) (a : A) → slice_get all i ≡ Some a → slice_get all j ≡ Some a → i ≡ j) → length all ≤ count_points found
    few all h apart = let le = length-le_from_distinct_below (ranks all h) (count_points found) (ranks_apart all h apart) (ranks_below all h) in let same = ranks_length all h in omega (arith, le, same)

-- ---- what was explored

module _ (p : Rows) (m : Meaning) (body : ℕ) (states : States) (t : AreAllTurned p m body states) where
  abbrev found : List (Option Point)
  found = map (point_of p m body) (states_of states)

  at_place : (k : ℕ) (a : State) (x : Point) → slice_get (places_of states) k ≡ Some a → (body_flow p m body).point a ≡ Some x → IsAt found k
  at_place k a x e is = let one = stands_at states k a e in
      (x, slice_get-map (point_of p m body) (states_of states) k ∙ ap (option_map (point_of p m body)) one.stands ∙ ap Some (ap (body_flow p m body).point one.is ∙ is))

  abbrev Stands : State → ℕ → Type 0
  Stands a k = slice_get (places_of states) k ≡ Some a

  pub not_too_large : IsTooLarge p m body → ⊥
  not_too_large more = let le = few found Stands (λ a b k e f. same_Some a b (sym e ∙ f)) more.places have more.apart in let counted = t.right.pointed.counted in let most = t.right.pointed.most in let many = more.more in omega (arith, le, counted, most, many)
    where
      have : HavePlaces found Stands more.places
      have i a e = let c = among more.places i a e in let x = more.points a c in
          let one = has_place (body_flow p m body) (places_of states) (λ n. hops_at states n) (explored p m body states t) a (more.reached a c) in
          (one.number, at_place one.number a x.0 one.place x.1, one.place)
