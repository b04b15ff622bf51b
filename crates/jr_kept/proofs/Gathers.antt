-- Definitions that reach uses, by rows, and the search for those that reach one.
use Rattle.std.proofs.Common.{◌≡◌, ◌⊎◌, inl, inr, ⊎_elim, refl, sym, ◌∙◌, ap, subst, arith, ℕ, ◌-◌, ◌<◌, true, false, List, [], ◌∷◌, ◌++◌, length, Option, Some, None, slice_get}
use Rattle.std.specs.List.{Contains}
use Rattle.std.proofs.lemmas.Bool.{false≢true}
use Rattle.std.proofs.lemmas.Option.{none-some, same_Some}
use Rattle.std.proofs.lemmas.List.{append-nil}
use Rattle.std.proofs.lemmas.List.Elements.{Contains-append_left, Contains-append_right, Contains-append_cases, Contains-push, Contains-push_cases}
use Rattle.jr_places.specs.declared.stamps.Stamps.{Stamps}
use Rattle.jr_places.specs.Stamps.{is_stamped, IsEmptied, AddsStamp}
use Rattle.jr_flow_defs.specs.declared.point.Point.{Point}
use Rattle.jr_flow_defs.specs.declared.point.PointKind.TheVariants as kind
use Rattle.jr_flow_defs.specs.Edges.{point}
use Rattle.jr_flow_defs.specs.Graphs.{StepList, ReachesByNumbers}
use Rattle.jr_flow_defs.proofs.Searched.{contains_out, contains_first, contains_more}
use Rattle.jr_flow.specs.Reached.{AreReaching}
use Rattle.jr_kept.specs.declared.lists.Lists.{Lists}
use Rattle.jr_kept.specs.Listed.{under, lists_in, under_in, IsListing}
use Rattle.jr_kept.specs.Searched.{IsMetOrOpen}
use Rattle.jr_kept.specs.Gathered.{one_row, row_at, pair_from, pair_of, pairs_of, ArePairs, AreFrom, AreBelow, AreReached, AreInside, IsFound, IsOriginalOf, AddsRow, Listed, IsGathering, AreOriginalsOf}
use Rattle.jr_kept.proofs.Naming.{get_inside}
use Rattle.jr_kept.proofs.Searching.{none_in}

-- ---- pairs of rows

one_out : (o q : Option ℕ) (u d : ℕ) → Contains (pair_of o q) (u, d) → (o ≡ Some u) × (q ≡ Some d)
one_out None q u d c = absurd (none_in (u, d) c)
one_out (Some x) None u d c = absurd (none_in (u, d) c)
one_out (Some x) (Some y) u d c = ⊎_elim (λ same. (ap (λ (z : ℕ × ℕ). Some z.0) same, ap (λ (z : ℕ × ℕ). Some z.1) same)) (λ more. absurd (none_in (u, d) more)) (contains_out (x, y) [] (u, d) c)

one_into : (o q : Option ℕ) (u d : ℕ) → o ≡ Some u → q ≡ Some d → Contains (pair_of o q) (u, d)
one_into o q u d e f = subst (λ z. Contains (pair_of z q) (u, d)) (sym e) (subst (λ z. Contains {X = ℕ × ℕ} (pair_from u z) (u, d)) (sym f) (contains_first (u, d) []))

-- a pair of numbers of points at these rows
record HasRows (points : List Point) (all : List (ℕ × ℕ)) (u d : ℕ) : Type 0 where
  from : ℕ
  to : ℕ
  pair : Contains all (from, to)
  definition : row_at points from ≡ Some d
  used : row_at points to ≡ Some u

pairs_out : (points : List Point) (all : List (ℕ × ℕ)) (u d : ℕ) → Contains (pairs_of points all) (u, d) → HasRows points all u d
pairs_out points [] u d c = absurd (none_in (u, d) c)
pairs_out points (x ∷ all) u d c = ⊎_elim
    (λ one. let o = one_out (row_at points x.1) (row_at points x.0) u d one in record { from = x.0; to = x.1; pair = contains_first x all; definition = o.1; used = o.0 })
    (λ more. let o = pairs_out points all u d more in record { from = o.from; to = o.to; pair = contains_more x all (o.from, o.to) o.pair; definition = o.definition; used = o.used })
    (Contains-append_cases (pair_of (row_at points x.1) (row_at points x.0)) (pairs_of points all) (u, d) c)

pairs_into : (points : List Point) (all : List (ℕ × ℕ)) (from to u d : ℕ) → Contains all (from, to) → row_at points from ≡ Some d → row_at points to ≡ Some u → Contains (pairs_of points all) (u, d)
pairs_into points [] from to u d c e f = absurd (none_in (from, to) c)
pairs_into points (x ∷ all) from to u d c e f = ⊎_elim
    (λ same. Contains-append_left (pair_of (row_at points x.1) (row_at points x.0)) (pairs_of points all) (u, d)
    (one_into (row_at points x.1) (row_at points x.0) u d (ap (λ (z : ℕ × ℕ). row_at points z.1) same ∙ f) (ap (λ (z : ℕ × ℕ). row_at points z.0) same ∙ e)))
    (λ more. Contains-append_right (pair_of (row_at points x.1) (row_at points x.0)) (pairs_of points all) (u, d) (pairs_into points all from to u d more e f))
    (contains_out x all (from, to) c)

pub reached_pairs : (points : List Point) (steps : StepList) (pairs : List (ℕ × ℕ)) → AreReaching points steps pairs → ArePairs (pairs_of points pairs) (ReachesByNumbers points steps)
reached_pairs points steps pairs h d u = (
  out,
  λ r. pairs_into points pairs r.from r.to u d
      (h.every r.from r.to (record { local = r.local; from = d; to = u; defines = r.defines; uses = r.uses; path = r.path })) (ap one_row r.defines) (ap one_row r.uses),
)
  where
    out : Contains (pairs_of points pairs) (u, d) → ReachesByNumbers points steps d u
    out c = let o = pairs_out points pairs u d c in let r = h.only o.from o.to o.pair in
        let from : r.from ≡ d = same_Some r.from d (sym (ap one_row r.defines) ∙ o.definition) in
        let to : r.to ≡ u = same_Some r.to u (sym (ap one_row r.uses) ∙ o.used) in
        record {
          local = r.local;
          from = o.from;
          to = o.to;
          defines = subst (λ z. slice_get points o.from ≡ point z (kind.Definition r.local)) from r.defines;
          uses = subst (λ z. slice_get points o.to ≡ point z (kind.Use r.local)) to r.uses;
          path = r.path;
        }

pub lists_reached : (lists : Lists) (first count bound : ℕ) (points : List Point) (steps : StepList) (pairs : List (ℕ × ℕ)) → IsListing lists first count pairs → ArePairs pairs (ReachesByNumbers points steps)
    → AreFrom points (length points) first → AreBelow points (length points) bound → count ≡ bound - first → AreReached (under_in lists) (ReachesByNumbers points steps)
lists_reached lists first count bound points steps pairs l are from below is d u = (
  λ c. (are d u).0 (l.listed.only u d (subst (λ xs. Contains xs d) same c)),
  λ r. let lt = get_inside points r.to _ r.uses in let least = from r.to _ lt r.uses in let most = below r.to _ lt r.uses in
      subst (λ xs. Contains xs d) (sym same) (l.listed.every u d ((are d u).1 r) least (omega (arith, least, most, is))),
)
  where
    same : under_in lists u ≡ under (lists_in lists) first u
    same = ap (λ f. under (lists_in lists) f u) l.begins

pub reached_inside : (lists : Lists) (bound : ℕ) (points : List Point) (steps : StepList) → AreReached (under_in lists) (ReachesByNumbers points steps) → AreBelow points (length points) bound → AreInside (under_in lists) bound
reached_inside lists bound points steps are below u d c = let r = (are d u).0 c in below r.from _ (get_inside points r.from _ r.defines) r.defines

-- ---- the search

module _ (ways : ℕ → List ℕ) (use_of origin : ℕ → Option ℕ) (used bound : ℕ) where
  abbrev Found : ℕ → Type 0
  Found d = IsFound (Listed ways) use_of used d

  pub gathering_begun : (seen : Stamps) → IsEmptied seen bound → IsGathering ways use_of origin used bound seen (ways used) []
  gathering_begun seen empty = record {
    counted = empty.counted;
    leads = λ d c. IsFound.first c;
    come = λ d s. absurd (false≢true (sym (empty.none d) ∙ s));
    begun = λ d c. inr c;
    passed = λ d k e s u c. absurd (false≢true (sym (empty.none d) ∙ s));
    out = λ n c. absurd (none_in n c);
    named = λ d n s u o. absurd (false≢true (sym (empty.none d) ∙ s));
  }

  found_inside : AreInside ways bound → (d : ℕ) → Found d → d < bound
  found_inside inside d (IsFound.first c) = inside used d c
  found_inside inside d (IsFound.on {k = k} f u c) = inside k d c

  module _ (inside : AreInside ways bound) (seen added : Stamps) (rest : List ℕ) (at : ℕ) (all : List ℕ) (h : IsGathering ways use_of origin used bound seen (rest ++ at ∷ []) all) where
    arrived : Found at
    arrived = h.leads at (Contains-push rest at)

    still : (k : ℕ) → ((n : ℕ) → is_stamped seen n ≡ true → is_stamped added n ≡ true) → is_stamped added at ≡ true → IsMetOrOpen seen (rest ++ at ∷ []) k → IsMetOrOpen added rest k
    still k kept now (inl stamped) = inl (kept k stamped)
    still k kept now (inr among) = ⊎_elim (λ early. inr early) (λ last. inl (subst (λ n. is_stamped added n ≡ true) last now)) (Contains-push_cases rest at k among)

    -- it was found before
    pub gathering_known : AddsStamp seen added bound at false → IsGathering ways use_of origin used bound added rest all
    gathering_known adds = record {
      counted = adds.counted;
      leads = λ d c. h.leads d (Contains-append_left rest (at ∷ []) d c);
      come = λ d s. h.come d (was d s);
      begun = λ d c. still d adds.kept now (h.begun d c);
      passed = λ d k e s u c. still e adds.kept now (h.passed d k e (was d s) u c);
      out = h.out;
      named = λ d n s u o. h.named d n (was d s) u o;
    }
      where
        before : is_stamped seen at ≡ true
        before = adds.was (found_inside inside at arrived) refl

        now : is_stamped added at ≡ true
        now = adds.kept at before

        was : (d : ℕ) → is_stamped added d ≡ true → is_stamped seen d ≡ true
        was d s = ⊎_elim (λ early. early) (λ same. subst (λ n. is_stamped seen n ≡ true) same before) (adds.out d s)

    -- it is found now, with what waits behind it
    gathering_more : (more new : List ℕ) → AddsStamp seen added bound at true → ((k d : ℕ) → use_of at ≡ Some k → Contains (ways k) d → Contains more d) → ((d : ℕ) → Contains more d → Found d)
        → ((n : ℕ) → Contains new n → Contains all n ⊎ IsOriginalOf (Listed ways) use_of origin used n) → ((n : ℕ) → Contains all n → Contains new n) → ((n : ℕ) → use_of at ≡ None → origin at ≡ Some n → Contains new n)
        → IsGathering ways use_of origin used bound added (rest ++ more) new
    gathering_more more new adds has of out kept here = record {
      counted = adds.counted;
      leads = λ d c. ⊎_elim (λ early. h.leads d (Contains-append_left rest (at ∷ []) d early)) (λ late. of d late) (Contains-append_cases rest more d c);
      come = λ d s. ⊎_elim (λ early. h.come d early) (λ same. subst Found same arrived) (adds.out d s);
      begun = λ d c. wider d (still d adds.kept now (h.begun d c));
      passed = λ d k e s u c. ⊎_elim (λ early. wider e (still e adds.kept now (h.passed d k e early u c)))
          (λ same. inr (Contains-append_right rest more e (has k e (ap use_of same ∙ u) c))) (adds.out d s);
      out = λ n c. ⊎_elim (λ early. h.out n early) (λ late. late) (out n c);
      named = λ d n s u o. ⊎_elim (λ early. kept n (h.named d n early u o)) (λ same. here n (ap use_of same ∙ u) (ap origin same ∙ o)) (adds.out d s);
    }
      where
        now : is_stamped added at ≡ true
        now = (adds.new_one refl).1

        wider : (k : ℕ) → IsMetOrOpen added rest k → IsMetOrOpen added (rest ++ more) k
        wider k (inl stamped) = inl stamped
        wider k (inr among) = inr (Contains-append_left rest more k among)

    -- it hands on
    pub gathering_on : (k : ℕ) → AddsStamp seen added bound at true → use_of at ≡ Some k → IsGathering ways use_of origin used bound added (rest ++ ways k) all
    gathering_on k adds u = gathering_more (ways k) all adds (λ j d e c. subst (λ z. Contains (ways z) d) (same_Some j k (sym e ∙ u)) c) (λ d c. IsFound.on arrived u c)
        (λ n c. inl c) (λ n c. c) (λ n e o. absurd (none-some k (sym e ∙ u)))

    -- it is a definition of its own
    pub gathering_named : (new : List ℕ) → AddsStamp seen added bound at true → use_of at ≡ None → AddsRow all new (origin at) → IsGathering ways use_of origin used bound added rest new
    gathering_named new adds u rows = subst (λ ws. IsGathering ways use_of origin used bound added ws new) (append-nil rest)
        (gathering_more [] new adds (λ j d e c. absurd (none-some j (sym u ∙ e))) (λ d c. absurd (none_in d c))
        (λ n c. ⊎_elim (λ early. inl early) (λ o. inr (record { copy = at; found = arrived; own = u; is_copy = o })) (rows.out n c)) rows.kept (λ n e o. rows.here n o))

  -- nothing waits
  pub gathering_ends : (seen : Stamps) (all : List ℕ) → IsGathering ways use_of origin used bound seen [] all → AreOriginalsOf ways use_of origin used all
  gathering_ends seen all h n = (h.out n, λ o. h.named o.copy n (met o.copy o.found) o.own o.is_copy)
    where
      is_met : (d : ℕ) → IsMetOrOpen seen [] d → is_stamped seen d ≡ true
      is_met d (inl stamped) = stamped
      is_met d (inr among) = absurd (none_in d among)

      met : (d : ℕ) → Found d → is_stamped seen d ≡ true
      met d (IsFound.first c) = is_met d (h.begun d c)
      met d (IsFound.on {d = b} {k = k} f u c) = is_met d (h.passed b k d (met b f) u c)
