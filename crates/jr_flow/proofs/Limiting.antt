-- Bodies with more points than there may be.
use Rattle.std.proofs.Common.{◌≡◌, refl, sym, ◌∙◌, ap, ap₂, subst, arith, ℕ, zero, suc, ◌+◌, ◌<◌, ◌≤◌, List, [], ◌∷◌, ◌++◌, length, map, ⊎_elim, Option, Some, None, option_map, slice_get}
use Rattle.std.specs.List.{Contains}
use Rattle.std.proofs.lemmas.List.{length-map, map-append}
use Rattle.std.proofs.lemmas.Option.{none-some, same_Some, slice_get-map, slice_get_within}
use Rattle.jr_tree.specs.Rows.{Rows}
use Rattle.jr_flow_defs.specs.declared.point.Point.{Point}
use Rattle.jr_flow_defs.specs.Meaning.{Meaning}
use Rattle.jr_flow_defs.specs.States.{State, Moment, Pending as Pending_list}
use Rattle.jr_flow_defs.specs.Paths.{IsReached}
use Rattle.jr_flow_defs.specs.Edges.{body_flow}
use Rattle.jr_flow.specs.declared.leaving.State as code
use Rattle.jr_flow.specs.declared.locations.Locations.{Locations}
use Rattle.jr_flow.specs.declared.pending.Pending.{Pending}
use Rattle.jr_flow.specs.declared.states.States.{States}
use Rattle.jr_flow.specs.Coded.{IsTooLarge}
use Rattle.jr_flow.specs.Places.{state_seen}
use Rattle.jr_flow.specs.Pended.{lists_of, IsPending}
use Rattle.jr_flow.specs.Located.{states_in, AreLocations, AddsState}
use Rattle.jr_flow.specs.declared.point.FlowFault.{FlowFault}
use Rattle.jr_flow.specs.declared.point.FlowFault.TheVariants as fault
use Rattle.jr_flow.specs.Numbered.{count_points, OnlyWhere}
use Rattle.jr_flow.specs.Stated.{point_of, states_of, IsPlaced, AreStates}
use Rattle.jr_flow.proofs.Gets.{get_pushed}
use Rattle.jr_flow.proofs.Keyed.{moment_once, state_of}
use Rattle.jr_flow.proofs.Linking.{get_of}
use Rattle.jr_flow.proofs.Pended.{list_once}
use Rattle.jr_flow.proofs.Woven.{of_map}

pub only_where : (P Q : Type 0) (f : FlowFault) → (P → Q) → OnlyWhere P f → OnlyWhere Q f
only_where P Q fault.TooManyPoints weaker h = weaker h
only_where P Q fault.OutOfMemory weaker h = tt

-- ---- the places that are points

module _ {A : Type 0} (point : A → Option Point) where
  abbrev keep : Option Point → A → List A → List A
  keep None a rest = rest
  keep (Some x) a rest = a ∷ rest

  abbrev kept : List A → List A
  kept [] = []
  kept (a ∷ rest) = keep (point a) a (kept rest)

  count_kept : (all : List A) → length (kept all) ≡ count_points (map point all)
  count_kept [] = refl
  count_kept (a ∷ rest) = by (point a) (count_kept rest)
    where
      by : (o : Option Point) → length (kept rest) ≡ count_points (map point rest) → length (keep o a (kept rest)) ≡ count_points (o ∷ map point rest)
      by None h = h
      by (Some x) h = ap suc h

  record IsKept (all : List A) (a : A) : Type 0 where
    at : ℕ
    stands : slice_get all at ≡ Some a
    point_is : Point
    is : point a ≡ Some point_is

  kept_from : (all : List A) (i : ℕ) (a : A) → slice_get (kept all) i ≡ Some a → IsKept all a
  kept_from [] i a e = absurd (none-some a e)
  kept_from (b ∷ rest) i a e = by (point b) refl i e (λ j g. kept_from rest j a g)
    where
      later : IsKept rest a → IsKept (b ∷ rest) a
      later k = record { at = suc k.at; stands = k.stands; point_is = k.point_is; is = k.is }

      by : (o : Option Point) → point b ≡ o → (j : ℕ) → slice_get (keep o b (kept rest)) j ≡ Some a → ((n : ℕ) → slice_get (kept rest) n ≡ Some a → IsKept rest a) → IsKept (b ∷ rest) a
      by None f j g more = later (more j g)
      by (Some x) f zero g more = record { at = 0; stands = g; point_is = x; is = ap point (sym (same_Some b a g)) ∙ f }
      by (Some x) f (suc j) g more = later (more j g)

  kept_apart : (all : List A) → ((i j : ℕ) (a : A) → slice_get all i ≡ Some a → slice_get all j ≡ Some a → i ≡ j) → (i j : ℕ) (a : A) → slice_get (kept all) i ≡ Some a → slice_get (kept all) j ≡ Some a → i ≡ j
  kept_apart [] apart i j a e f = absurd (none-some a e)
  kept_apart (b ∷ rest) apart i j a e f = by (point b) (λ m n g h. kept_apart rest rest_apart m n a g h) i j e f
    where
      one_less : (m n : ℕ) → suc m ≡ suc n → m ≡ n
      one_less m n g = omega (arith, g)

      rest_apart : (m n : ℕ) (c : A) → slice_get rest m ≡ Some c → slice_get rest n ≡ Some c → m ≡ n
      rest_apart m n c g h = one_less m n (apart (suc m) (suc n) c g h)

      never : (n : ℕ) → slice_get (kept rest) n ≡ Some a → b ≡ a → ⊥
      never n g same = let k = kept_from rest n a g in let e : 0 ≡ suc k.at = apart 0 (suc k.at) a (ap Some same) k.stands in omega (arith, e)

      by : (o : Option Point) → ((m n : ℕ) → slice_get (kept rest) m ≡ Some a → slice_get (kept rest) n ≡ Some a → m ≡ n) → (m n : ℕ) → slice_get (keep o b (kept rest)) m ≡ Some a → slice_get (keep o b (kept rest)) n ≡ Some a → m ≡ n
      by None less m n g h = less m n g h
      by (Some x) less zero zero g h = refl
      by (Some x) less zero (suc n) g h = absurd (never n h (same_Some b a g))
      by (Some x) less (suc m) zero g h = absurd (never m g (same_Some b a h))
      by (Some x) less (suc m) (suc n) g h = ap suc (less m n g h)

-- ---- more than there may be

module _ (p : Rows) (m : Meaning) (body : ℕ) (pending : Pending) (locations : Locations) (is : IsPending pending) (located : AreLocations locations) (placed : (i : ℕ) (a : code.State) → slice_get (states_in locations) i ≡ Some a → IsPlaced p m body pending a) where
  abbrev seen : code.State → State
  seen = state_seen (lists_of pending)

  abbrev point : code.State → Option Point
  point = point_of p m body

  abbrev all : List code.State
  all = states_in locations

  seen_once : (x y : code.State) → IsPlaced p m body pending x → IsPlaced p m body pending y → seen x ≡ seen y → x ≡ y
  seen_once x y at_x at_y e = state_is (ap row_of e) (moment_once x.moment y.moment (ap moment_of e)) (list_once pending is x.list y.list at_x.fits at_y.fits (ap pending_of e))
    where
      row_of : State → ℕ
      row_of a = a.row

      moment_of : State → Moment
      moment_of a = a.moment

      pending_of : State → Pending_list
      pending_of a = a.pending

      state_is : x.row ≡ y.row → x.moment ≡ y.moment → x.list ≡ y.list → x ≡ y
      state_is row moment list = ap₂ (λ r l. state_of r x.moment l) row list ∙ ap (λ z. state_of y.row z y.list) moment

  pub too_large : 65536 < count_points (map point all) → IsTooLarge p m body
  too_large more = record {
    places = map seen (kept point all);
    more = let l = length-map (kept point all) seen in let n = count_kept point all in omega (arith, l, n, more);
    apart = apart;
    reached = λ a c. let one = of_map seen (kept point all) a c in let k = kept_from point all one.0 one.1 one.2 in subst (IsReached (body_flow p m body)) one.3 (placed k.at one.1 k.stands).reached;
    points = λ a c. let one = of_map seen (kept point all) a c in let k = kept_from point all one.0 one.1 one.2 in (k.point_is, ap (body_flow p m body).point (sym one.3) ∙ k.is);
  }
    where
      of_seen : (i : ℕ) (a : State) → slice_get (map seen (kept point all)) i ≡ Some a → (x : code.State) × (slice_get (kept point all) i ≡ Some x) × (seen x ≡ a)
      of_seen i a e = by (slice_get (kept point all) i) refl (sym (slice_get-map seen (kept point all) i) ∙ e)
        where
          by : (o : Option code.State) → slice_get (kept point all) i ≡ o → option_map seen o ≡ Some a → (x : code.State) × (slice_get (kept point all) i ≡ Some x) × (seen x ≡ a)
          by None f g = absurd (none-some a g)
          by (Some x) f g = (x, f, same_Some (seen x) a g)

      placed_kept : (i : ℕ) (x : code.State) → slice_get (kept point all) i ≡ Some x → IsPlaced p m body pending x
      placed_kept i x e = let k = kept_from point all i x e in placed k.at x k.stands

      all_apart : (i j : ℕ) (a : code.State) → slice_get all i ≡ Some a → slice_get all j ≡ Some a → i ≡ j
      all_apart i j a e f = same_Some i j (sym (located.known a i e) ∙ located.known a j f)

      apart : (i j : ℕ) (a : State) → slice_get (map seen (kept point all)) i ≡ Some a → slice_get (map seen (kept point all)) j ≡ Some a → i ≡ j
      apart i j a e f = let x = of_seen i a e in let y = of_seen j a f in let same = seen_once x.0 y.0 (placed_kept i x.0 x.1) (placed_kept j y.0 y.1) (x.2 ∙ sym y.2) in
          kept_apart point all all_apart i j x.0 x.1 (y.1 ∙ ap Some (sym same))

-- the new place is one point too many
pub one_too_many : (p : Rows) (m : Meaning) (body : ℕ) (old : States) (located : Locations) (a : code.State) (n : ℕ) (found : Option Point) → AreStates p m body old → IsPlaced p m body old.pending a → AddsState old.locations located a n
    → found ≡ point_of p m body a → 65536 < count_points (map (point_of p m body) (states_of old) ++ found ∷ []) → IsTooLarge p m body
one_too_many p m body old located a n found h placed adds found_is more = too_large p m body old.pending located h.pending adds.right
    (λ i b e. ⊎_elim (λ one. h.placed i b one) (λ one. subst (IsPlaced p m body old.pending) one.1 placed) (get_pushed (states_in old.locations) a b i (ap (λ xs. slice_get xs i) (sym adds.states) ∙ e)))
    (subst (λ xs. 65536 < count_points xs) all_found more)
  where
    all_found : map (point_of p m body) (states_in old.locations) ++ found ∷ [] ≡ map (point_of p m body) (states_in located)
    all_found = ap (λ o. map (point_of p m body) (states_in old.locations) ++ o ∷ []) found_is ∙ sym (map-append (point_of p m body) (states_in old.locations) (a ∷ [])) ∙ ap (map (point_of p m body)) (sym adds.states)
