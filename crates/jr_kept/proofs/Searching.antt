-- The search for the names to which edges lead from one point.
use Rattle.std.proofs.Common.{◌≡◌, ◌⊎◌, inl, inr, ⊎_elim, refl, sym, ◌∙◌, ap, subst, arith, ℕ, zero, suc, ◌+◌, ◌<◌, ◌≤◌, Bool, true, false, List, [], ◌∷◌, ◌++◌, length, map, min, Option, Some, None, slice_get, slice_index_or}
use Rattle.std.specs.List.{Contains}
use Rattle.std.proofs.lemmas.Bool.{false≢true, cases_lt}
use Rattle.std.proofs.lemmas.Option.{none-some, same_Some}
use Rattle.std.proofs.lemmas.List.Elements.{Contains-append_left, Contains-append_right, Contains-append_cases, Contains-push, Contains-push_cases}
use Rattle.jr_tree.specs.Rows.{Rows}
use Rattle.jr_places.specs.declared.stamps.Stamps.{Stamps}
use Rattle.jr_places.specs.Stamps.{is_stamped, IsEmptied, AddsStamp}
use Rattle.jr_flow_defs.specs.declared.point.Point.{Point}
use Rattle.jr_flow_defs.specs.Graphs.{StepList, StepPath}
use Rattle.jr_flow_defs.proofs.Searched.{contains_out, contains_first, contains_more}
use Rattle.jr_flow.specs.declared.point.Step.{Step}
use Rattle.jr_flow.specs.Reached.{step_seen}
use Rattle.jr_flow.proofs.Walking.{met_before}
use Rattle.jr_kept.specs.declared.lists.Lists.{Lists}
use Rattle.jr_kept.specs.declared.search.Targets.{Targets}
use Rattle.jr_kept.specs.declared.search.Side.{Side}
use Rattle.jr_kept.specs.declared.search.Search.{Search}
use Rattle.jr_kept.specs.Named.{no_name}
use Rattle.jr_kept.specs.Listed.{under, lists_in, under_in, IsListing}
use Rattle.jr_kept.specs.Searched.{ends_of, HasStepTo, AreWays, AreWithin, name_in, IsNamed, is_one_node, EdgeFrom, ArePairs, AreByName, AreFew, IsSide, IsTargets, AddsTarget, least_with, IsLeast, IsMetOrOpen, IsSearching, FindsFrom, IsReady, FindsFromAll, HasFound}
use Rattle.jr_kept.proofs.Naming.{get_inside}

-- ---- what stands at a number, or else

pub got_or : {A : Type 0} (xs : List A) (k : ℕ) (d x : A) → slice_get xs k ≡ Some x → slice_index_or xs k d ≡ x
got_or [] k d x e = absurd (none-some x e)
got_or (y ∷ xs) zero d x e = same_Some y x e
got_or (y ∷ xs) (suc k) d x e = got_or xs k d x e

pub or_got : {A : Type 0} (xs : List A) (k : ℕ) (d : A) → (slice_index_or xs k d ≡ d → ⊥) → slice_get xs k ≡ Some (slice_index_or xs k d)
or_got [] k d apart = absurd (apart refl)
or_got (y ∷ xs) zero d apart = refl
or_got (y ∷ xs) (suc k) d apart = or_got xs k d apart

pub unnamed : (names : List ℕ) (k : ℕ) → name_in names k ≡ no_name → IsNamed names k → ⊥
unnamed names k e h = h.known (sym (got_or names k no_name h.name h.has) ∙ e)

module _ (p : Rows) (points : List Point) (names : List ℕ) (steps : StepList) (from : ℕ) (old : List ℕ) where
  abbrev Stops : ℕ → Type 0
  Stops k = IsNamed names k

  pub search_begun : (met : Stamps) (ways found : List ℕ) → IsEmptied met (length points) → ((r : ℕ) → HasStepTo steps from r → Contains ways r) → ((r : ℕ) → Contains ways r → HasStepTo steps from r) → found ≡ old
      → IsSearching p points names steps from old met ways found
  search_begun met ways found empty has of same = record {
    counted = empty.counted;
    passed = λ k r t e none c. absurd (false≢true (sym (empty.none k) ∙ e));
    begun = λ r t c. inr (has r (t, c));
    leads = λ o c. let s = of o c in StepPath.step s.0 s.1;
    reached = λ k y e n a b. absurd (false≢true (sym (empty.none k) ∙ e));
    sound = λ y c. inl (subst (λ ys. Contains ys y) same c);
    kept = λ y c. subst (λ ys. Contains ys y) (sym same) c;
  }

  path_inside : AreWithin (length points) steps → (i j : ℕ) → StepPath steps Stops i j → j < length points
  path_inside within i j (StepPath.step t c) = (within i j t c).1
  path_inside within i j (StepPath.on {k = k} t path apart c) = (within k j t c).1

  module _ (within : AreWithin (length points) steps) (met added : Stamps) (rest : List ℕ) (to : ℕ) (found : List ℕ) (h : IsSearching p points names steps from old met (rest ++ to ∷ []) found) where
    pub to_inside : to < length points
    to_inside = path_inside within from to (h.leads to (Contains-push rest to))

    still : (r : ℕ) → ((k : ℕ) → is_stamped met k ≡ true → is_stamped added k ≡ true) → is_stamped added to ≡ true → IsMetOrOpen met (rest ++ to ∷ []) r → IsMetOrOpen added rest r
    still r kept now (inl stamped) = inl (kept r stamped)
    still r kept now (inr among) = ⊎_elim (λ early. inr early) (λ last. inl (subst (λ k. is_stamped added k ≡ true) last now)) (Contains-push_cases rest to r among)

    -- it was met before
    pub search_known : AddsStamp met added (length points) to false → IsSearching p points names steps from old added rest found
    search_known adds = record {
      counted = adds.counted;
      passed = λ k r t e none c. still r adds.kept now (h.passed k r t (was k e) none c);
      begun = λ r t c. still r adds.kept now (h.begun r t c);
      leads = λ o c. h.leads o (Contains-append_left rest (to ∷ []) o c);
      reached = λ k y e n a b. h.reached k y (was k e) n a b;
      sound = h.sound;
      kept = h.kept;
    }
      where
        now : is_stamped added to ≡ true
        now = adds.kept to (adds.was to_inside refl)

        was : (k : ℕ) → is_stamped added k ≡ true → is_stamped met k ≡ true
        was k e = met_before met added (length points) to adds to_inside k e

    -- it has no name, and what comes behind it waits
    pub search_unnamed : (ways : List ℕ) → AddsStamp met added (length points) to true → (IsNamed names to → ⊥) → ((r : ℕ) → HasStepTo steps to r → Contains ways r) → ((r : ℕ) → Contains ways r → HasStepTo steps to r)
        → IsSearching p points names steps from old added (rest ++ ways) found
    search_unnamed ways adds none has of = record {
      counted = adds.counted;
      passed = λ k r t e quiet c. ⊎_elim
          (λ early. more r (still r adds.kept now (h.passed k r t early quiet c)))
          (λ same. inr (Contains-append_right rest ways r (has r (t, subst (λ x. Contains steps (x, r, t)) (sym same) c))))
          (adds.out k e);
      begun = λ r t c. more r (still r adds.kept now (h.begun r t c));
      leads = λ o c. ⊎_elim
          (λ early. h.leads o (Contains-append_left rest (to ∷ []) o early))
          (λ late. let s = of o late in StepPath.on s.0 (h.leads to (Contains-push rest to)) none s.1)
          (Contains-append_cases rest ways o c);
      reached = λ k y e n a b. ⊎_elim
          (λ early. h.reached k y early n a b)
          (λ same. absurd (none (record { name = y; has = subst (λ x. slice_get names x ≡ Some y) (sym same) n; known = a })))
          (adds.out k e);
      sound = h.sound;
      kept = h.kept;
    }
      where
        now : is_stamped added to ≡ true
        now = (adds.new_one refl).1

        more : (r : ℕ) → IsMetOrOpen added rest r → IsMetOrOpen added (rest ++ ways) r
        more r (inl stamped) = inl stamped
        more r (inr among) = inr (Contains-append_left rest ways r among)

    -- it has a name, which is found unless both are one node
    pub search_named : (more : List ℕ) (name : ℕ) → AddsStamp met added (length points) to true → slice_get names to ≡ Some name → (name ≡ no_name → ⊥)
        → ((y : ℕ) → Contains more y → Contains found y ⊎ ((name ≡ y) × (is_one_node p points names from to ≡ false))) → ((y : ℕ) → Contains found y → Contains more y) → (is_one_node p points names from to ≡ false → Contains more name)
        → IsSearching p points names steps from old added rest more
    search_named more name adds has known out kept here = record {
      counted = adds.counted;
      passed = λ k r t e quiet c. ⊎_elim
          (λ early. still r adds.kept now (h.passed k r t early quiet c))
          (λ same. absurd (quiet (record { name = name; has = subst (λ x. slice_get names x ≡ Some name) same has; known = known })))
          (adds.out k e);
      begun = λ r t c. still r adds.kept now (h.begun r t c);
      leads = λ o c. h.leads o (Contains-append_left rest (to ∷ []) o c);
      reached = λ k y e n a b. ⊎_elim
          (λ early. kept y (h.reached k y early n a b))
          (λ same. subst (Contains more) (same_Some name y (sym has ∙ subst (λ x. slice_get names x ≡ Some y) (sym same) n)) (here (subst (λ x. is_one_node p points names from x ≡ false) (sym same) b)))
          (adds.out k e);
      sound = λ y c. ⊎_elim (λ early. h.sound y early) (λ new. inr (new_edge y new.0 new.1)) (out y c);
      kept = λ y c. kept y (h.kept y c);
    }
      where
        now : is_stamped added to ≡ true
        now = (adds.new_one refl).1

        new_edge : (y : ℕ) → name ≡ y → is_one_node p points names from to ≡ false → EdgeFrom p points names steps from y
        new_edge y same apart = subst (EdgeFrom p points names steps from) same (record { to = to; ends = has; known = known; path = h.leads to (Contains-push rest to); apart = apart })

  -- nothing waits
  module _ (met : Stamps) (found : List ℕ) (h : IsSearching p points names steps from old met [] found) where
    is_met : (k : ℕ) → IsMetOrOpen met [] k → is_stamped met k ≡ true
    is_met k (inl stamped) = stamped
    is_met k (inr among) = absurd (omega (arith, among.1))

    all_met : (k : ℕ) → StepPath steps Stops from k → is_stamped met k ≡ true
    all_met k (StepPath.step t c) = is_met k (h.begun k t c)
    all_met k (StepPath.on {k = j} t path apart c) = is_met k (h.passed j k t (all_met j path) apart c)

    pub search_ends : (y : ℕ) → EdgeFrom p points names steps from y → Contains found y
    search_ends y e = h.reached e.to y (all_met e.to e.path) e.ends e.known e.apart

-- ---- names that are found

pub no_items : {A : Type 0} (xs : List A) → length xs ≡ 0 → xs ≡ []
no_items [] e = refl
no_items (x ∷ xs) e = absurd (omega (arith, e))

pub none_in : {A : Type 0} (x : A) → Contains [] x → ⊥
none_in x h = absurd (omega (arith, h.1))

pub target_added : (old new : Targets) (count name : ℕ) → IsTargets old count → AddsStamp old.met new.met count name true → new.all.items ≡ old.all.items ++ name ∷ [] → IsTargets new count × AddsTarget old new name
target_added old new count name h adds is = (
  record {
    counted = adds.counted;
    met = λ y e. ⊎_elim (λ early. into y (Contains-append_left old.all.items (name ∷ []) y (h.met y early))) (λ same. into y (subst (Contains (old.all.items ++ name ∷ [])) same (Contains-push old.all.items name))) (adds.out y e);
    listed = λ y c. ⊎_elim (λ early. adds.kept y (h.listed y early)) (λ same. subst (λ z. is_stamped new.met z ≡ true) same (adds.new_one refl).1) (Contains-push_cases old.all.items name y (subst (λ ys. Contains ys y) is c));
  },
  record {
    out = λ y c. Contains-push_cases old.all.items name y (subst (λ ys. Contains ys y) is c);
    kept = λ y c. into y (Contains-append_left old.all.items (name ∷ []) y c);
    here = into name (Contains-push old.all.items name);
  },
)
  where
    into : (y : ℕ) → Contains (old.all.items ++ name ∷ []) y → Contains new.all.items y
    into y c = subst (λ ys. Contains ys y) (sym is) c

pub target_known : (old new : Targets) (count name : ℕ) → IsTargets old count → AddsStamp old.met new.met count name false → name < count → new.all.items ≡ old.all.items → IsTargets new count × AddsTarget old new name
target_known old new count name h adds lt is = (
  record {
    counted = adds.counted;
    met = λ y e. into y (h.met y (was y e));
    listed = λ y c. adds.kept y (h.listed y (out y c));
  },
  record { out = λ y c. inl (out y c); kept = λ y c. into y c; here = into name (h.met name before) },
)
  where
    into : (y : ℕ) → Contains old.all.items y → Contains new.all.items y
    into y c = subst (λ ys. Contains ys y) (sym is) c

    out : (y : ℕ) → Contains new.all.items y → Contains old.all.items y
    out y c = subst (λ ys. Contains ys y) is c

    before : is_stamped old.met name ≡ true
    before = adds.was lt refl

    was : (y : ℕ) → is_stamped new.met y ≡ true → is_stamped old.met y ≡ true
    was y e = met_before old.met new.met count name adds lt y e

pub least_none : (there : Stamps) (all : List ℕ) → IsLeast there all [] None
least_none there all = record { none = λ y c. absurd (none_in y c); some = tt }

pub least_more : (there : Stamps) (all done : List ℕ) (name : ℕ) (least : Option ℕ) → Contains all name → IsLeast there all done least → IsLeast there all (done ++ name ∷ []) (least_with least name (is_stamped there name))
least_more there all done name least among h = by least h (is_stamped there name) refl
  where
    lesser : (known : ℕ) → Contains all known → is_stamped there known ≡ false → is_stamped there name ≡ false → Contains all (min name known) × (is_stamped there (min name known) ≡ false)
    lesser known c e f = ⊎_elim
        (λ lt. let is : known ≡ min name known = omega (arith, lt) in (subst (Contains all) is c, subst (λ y. is_stamped there y ≡ false) is e))
        (λ le. let is : name ≡ min name known = omega (arith, le) in (subst (Contains all) is among, subst (λ y. is_stamped there y ≡ false) is f))
        (cases_lt known name)

    by : (known : Option ℕ) → IsLeast there all done known → (b : Bool) → is_stamped there name ≡ b → IsLeast there all (done ++ name ∷ []) (least_with known name b)
    by None l true e = record { none = λ y c. ⊎_elim (λ early. l.none y early) (λ same. subst (λ z. is_stamped there z ≡ true) same e) (Contains-push_cases done name y c); some = tt }
    by (Some known) l true e = record { none = tt; some = l.some }
    by None l false e = record { none = tt; some = (among, e) }
    by (Some known) l false e = record { none = tt; some = lesser known l.some.0 l.some.1 e }

-- ---- all points of a name

pub finds_none : (side : Side) (steps : StepList) (old : List ℕ) → FindsFromAll side steps [] old old
finds_none side steps old = record { every = λ i y c e. absurd (none_in i c); sound = λ y c. inl c; kept = λ y c. c }

pub finds_more : (side : Side) (steps : StepList) (done : List ℕ) (point : ℕ) (old mid new : List ℕ) → FindsFromAll side steps done old mid → FindsFrom side steps point mid new → FindsFromAll side steps (done ++ point ∷ []) old new
finds_more side steps done point old mid new h one = record {
  every = λ i y c e. ⊎_elim (λ early. one.kept y (h.every i y early e)) (λ same. one.every y (subst (λ k. EdgeFrom side.rows.now side.points.now side.names.items steps k y) (sym same) e)) (Contains-push_cases done point i c);
  sound = λ y c. ⊎_elim (λ early. ⊎_elim (λ first. inl first) (λ w. inr (w.0, Contains-append_left done (point ∷ []) w.0 w.1, w.2)) (h.sound y early)) (λ e. inr (point, Contains-push done point, e)) (one.sound y c);
  kept = λ y c. one.kept y (h.kept y c);
}

-- ---- a side

pub pairs_none : (names : List ℕ) → ArePairs names [] 0
pairs_none names c k = (λ h. absurd (none_in (c, k) h), λ lt e. absurd (omega (arith, lt)))

pub pairs_more : (names : List ℕ) (pairs : List (ℕ × ℕ)) (i name : ℕ) → slice_get names i ≡ Some name → ArePairs names pairs i → ArePairs names (pairs ++ (name, i) ∷ []) (i + 1)
pairs_more names pairs i name at h c k = (
  λ m. ⊎_elim (λ early. (h c k).0 early) (λ same. let a : name ≡ c = ap (λ x. x.0) same in let b : i ≡ k = ap (λ x. x.1) same in subst (λ z. slice_get names k ≡ Some z) a (subst (λ z. slice_get names z ≡ Some name) b at)) (Contains-push_cases pairs (name, i) (c, k) m),
  λ lt e. ⊎_elim (λ early. Contains-append_left pairs ((name, i) ∷ []) (c, k) ((h c k).1 early e)) (λ past. last (omega (arith, lt, past)) e) (cases_lt k i),
)
  where
    last : k ≡ i → slice_get names k ≡ Some c → Contains (pairs ++ (name, i) ∷ []) (c, k)
    last same e = let is : name ≡ c = same_Some name c (sym at ∙ subst (λ z. slice_get names z ≡ Some c) same e) in
        subst (λ z. Contains (pairs ++ (name, i) ∷ []) (z, k)) is (subst (λ z. Contains (pairs ++ (name, i) ∷ []) (name, z)) (sym same) (Contains-push pairs (name, i)))

pub pairs_left : (names : List ℕ) (pairs : List (ℕ × ℕ)) (i : ℕ) → slice_get names i ≡ None → ArePairs names pairs i → ArePairs names pairs (i + 1)
pairs_left names pairs i none h c k = ((h c k).0, λ lt e. ⊎_elim (λ early. (h c k).1 early e) (λ past. let same : k ≡ i = omega (arith, lt, past) in absurd (none-some c (sym none ∙ subst (λ z. slice_get names z ≡ Some c) same e))) (cases_lt k i))

pub under_zero : (lists : Lists) (count : ℕ) (pairs : List (ℕ × ℕ)) (k : ℕ) → IsListing lists 0 count pairs → under_in lists k ≡ under (lists_in lists) 0 k
under_zero lists count pairs k h = ap (λ f. under (lists_in lists) f k) h.begins

pub named_listed : (lists : Lists) (count : ℕ) (names : List ℕ) (pairs : List (ℕ × ℕ)) → ArePairs names pairs (length names) → IsListing lists 0 count pairs → AreByName lists count names
named_listed lists count names pairs h l c k lt = (
  λ m. (h c k).0 (l.listed.only c k (subst (λ ys. Contains ys k) (under_zero lists count pairs c l) m)),
  λ e. subst (λ ys. Contains ys k) (sym (under_zero lists count pairs c l)) (l.listed.every c k ((h c k).1 (get_inside names k c e) e) (omega arith) (omega (arith, lt))),
)

ends_into : (all : List Step) (i j : ℕ) → HasStepTo (map step_seen all) i j → Contains (map ends_of all) (i, j)
ends_into [] i j h = absurd (none_in (i, j, h.0) h.1)
ends_into (s ∷ all) i j h = ⊎_elim
    (λ same. subst (Contains (map ends_of (s ∷ all))) (ap (λ x. (x.0, x.1)) same) (contains_first (ends_of s) (map ends_of all)))
    (λ more. contains_more (ends_of s) (map ends_of all) (i, j) (ends_into all i j (h.0, more)))
    (contains_out (step_seen s) (map step_seen all) (i, j, h.0) h.1)

ends_out : (all : List Step) (i j : ℕ) → Contains (map ends_of all) (i, j) → HasStepTo (map step_seen all) i j
ends_out [] i j h = absurd (none_in (i, j) h)
ends_out (s ∷ all) i j h = ⊎_elim
    (λ same. (s.is_throw, subst (λ x. Contains (map step_seen (s ∷ all)) (x.0, x.1, s.is_throw)) same (contains_first (step_seen s) (map step_seen all))))
    (λ more. let one = ends_out all i j more in (one.0, contains_more (step_seen s) (map step_seen all) (i, j, one.0) one.1))
    (contains_out (ends_of s) (map ends_of all) (i, j) h)

pub ways_listed : (lists : Lists) (count : ℕ) (all : List Step) → IsListing lists 0 count (map ends_of all) → AreWays lists count (map step_seen all)
ways_listed lists count all l i j lt = (
  λ m. ends_out all i j (l.listed.only i j (subst (λ ys. Contains ys j) (under_zero lists count (map ends_of all) i l) m)),
  λ s. subst (λ ys. Contains ys j) (sym (under_zero lists count (map ends_of all) i l)) (l.listed.every i j (ends_into all i j s) (omega arith) (omega (arith, lt))),
)

pub side_made : (side : Side) (points : List Point) (count : ℕ) (steps : StepList) → side.points.now ≡ points → length side.names.items ≡ length points → AreFew side.names.items count → count ≤ no_name → AreWays side.ways (length points) steps
    → AreByName side.named count side.names.items → AreWithin (length points) steps → IsSide side count steps
side_made side points count steps same size few bound ways named within = record {
  size = size ∙ sym (ap length same);
  few = few;
  bound = bound;
  ways = subst (λ n. AreWays side.ways n steps) (sym (ap length same)) ways;
  named = named;
  within = subst (λ n. AreWithin n steps) (sym (ap length same)) within;
}

pub found_all : (search : Search) (side : Side) (steps : StepList) (count x : ℕ) (points : List ℕ) → IsSide side count steps → x < count → points ≡ under_in side.named x → IsReady search side count → FindsFromAll side steps points [] search.targets.all.items
    → HasFound search side steps count x
found_all search side steps count x points s lt is ready f = record {
  ready = ready;
  every = λ y e. f.every e.from y (subst (λ ys. Contains ys e.from) (sym is) ((s.named x e.from lt).1 e.starts)) e.edge;
  sound = λ y c. ⊎_elim (λ none. absurd (none_in y none)) (λ w. record { from = w.0; starts = (s.named x w.0 lt).0 (subst (λ ys. Contains ys w.0) is w.1); edge = w.2 }) (f.sound y c);
}

pub points_inside : (side : Side) (steps : StepList) (count x : ℕ) (points : List ℕ) → IsSide side count steps → x < count → points ≡ under_in side.named x → (k : ℕ) → Contains points k → k < length side.points.now
points_inside side steps count x points s lt is k c = let size = s.size in let inside = get_inside side.names.items k x ((s.named x k lt).0 (subst (λ ys. Contains ys k) is c)) in omega (arith, size, inside)
