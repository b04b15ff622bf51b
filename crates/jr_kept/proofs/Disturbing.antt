-- Definitions between that of a local and its uses, by the numbers of points, and those of a flow.
use Rattle.std.proofs.Common.{◌≡◌, ◌⊎◌, inl, inr, ⊎_elim, refl, sym, ◌∙◌, ap, subst, arith, ℕ, zero, suc, ◌+◌, ◌<◌, ◌≤◌, Bool, true, false, not, ◌&&◌, ◌||◌, if◌then◌else◌, List, [], ◌∷◌, ◌++◌, length, map, Option, Some, None, IfSome, nat_eq, nat_lt, slice_get, Decides}
use Rattle.std.specs.List.{Contains}
use Rattle.std.proofs.lemmas.Bool.{false≢true, cases_lt}
use Rattle.std.proofs.lemmas.Bool.Decides.{Decides-eqb, Decides-ltb}
use Rattle.std.proofs.lemmas.Option.{none-some, same_Some}
use Rattle.std.proofs.lemmas.List.Elements.{Contains-append_left, Contains-append_right, Contains-append_cases}
use Rattle.jr_tree.specs.Rows.{Rows, end}
use Rattle.jr_places.specs.declared.stamps.Stamps.{Stamps}
use Rattle.jr_places.specs.Stamps.{is_stamped, IsStamping, AddsStamp}
use Rattle.jr_flow_defs.specs.declared.point.Point.{Point}
use Rattle.jr_flow_defs.specs.declared.point.PointKind.{PointKind}
use Rattle.jr_flow_defs.specs.declared.point.PointKind.TheVariants as kind
use Rattle.jr_flow_defs.specs.Edges.{point}
use Rattle.jr_flow_defs.specs.Graphs.{StepList, StepPath, PassesAt, is_definition_of}
use Rattle.jr_flow_defs.specs.Computed.{is_definition}
use Rattle.jr_flow_defs.proofs.Searched.{contains_out, contains_first, contains_more}
use Rattle.jr_flow.specs.declared.point.Step.{Step}
use Rattle.jr_flow.specs.Reached.{step_seen}
use Rattle.jr_kept.specs.declared.lists.Lists.{Lists}
use Rattle.jr_kept.specs.Listed.{under_in}
use Rattle.jr_kept.specs.Searched.{HasStepTo, AreWays, AreWithin}
use Rattle.jr_kept.specs.Spread.{AreWaysBack, IsSpread, AreSpread, OnlySpread}
use Rattle.jr_kept.specs.declared.edges.Firsts.{Firsts}
use Rattle.jr_kept.specs.Ordered.{Tells}
use Rattle.jr_kept.specs.Disturbed.{is_inside, is_point_inside, such_by, is_such, AreSuch, AreBetween, OnlyBetween, throws, MayThrow, HasThrow, ThrowsInside, local_of, local_at, AreLocalsBelow, some_if, held_by, held_at, AddsIf, AreHeld, IsHeldAt, OnlyHeld, is_changed, disturbs_by, disturbs, NoneDisturbs, IsHeld, IsUndisturbed}
use Rattle.jr_kept.proofs.Naming.{get_inside}
use Rattle.jr_kept.proofs.Searching.{none_in}
use Rattle.jr_kept.proofs.Telling.{tells_both, tells_like}

-- ---- tests

or_false : (a b : Bool) → (a || b) ≡ false → (a ≡ false) × (b ≡ false)
or_false true b e = absurd (false≢true (sym e))
or_false false b e = (refl, e)

pub or_true : (a b : Bool) → (a || b) ≡ true → (a ≡ true) ⊎ (b ≡ true)
or_true true b e = inl refl
or_true false b e = inr e

pub and_true : (a b : Bool) → a ≡ true → b ≡ true → (a && b) ≡ true
and_true true b e f = f
and_true false b e f = absurd (false≢true e)

pub and_out : (a b : Bool) → (a && b) ≡ true → (a ≡ true) × (b ≡ true)
and_out true b e = (refl, e)
and_out false b e = absurd (false≢true e)

pub never_true : (b : Bool) → (b ≡ true → ⊥) → b ≡ false
never_true true h = absurd (h refl)
never_true false h = refl

-- a row is inside just where it stands behind the first one and before the end
pub inside_tells : (first last row : ℕ) → Decides (is_inside first last row) ((first < row) × (row < last))
inside_tells first last row = (
  λ e. let both = and_out (not (nat_eq row first)) (not (nat_lt row first) && nat_lt row last) e in let rest = and_out (not (nat_lt row first)) (nat_lt row last) both.1 in
      (behind (cases_lt first row) both.0 rest.0, (Decides-ltb row last).0 rest.1),
  λ h. let later = h.0 in
      and_true (not (nat_eq row first)) (not (nat_lt row first) && nat_lt row last) (ap not (never_true (nat_eq row first) (λ e. let same = (Decides-eqb row first).0 e in absurd (omega (arith, later, same)))))
      (and_true (not (nat_lt row first)) (nat_lt row last) (ap not (never_true (nat_lt row first) (λ e. let less = (Decides-ltb row first).0 e in absurd (omega (arith, later, less))))) ((Decides-ltb row last).1 h.1)),
)
  where
    behind : (first < row) ⊎ (row ≤ first) → not (nat_eq row first) ≡ true → not (nat_lt row first) ≡ true → first < row
    behind (inl lt) e f = lt
    behind (inr le) e f = by (cases_lt row first)
      where
        by : (row < first) ⊎ (first ≤ row) → first < row
        by (inl less) = absurd (false≢true (sym (ap not ((Decides-ltb row first).1 less)) ∙ f))
        by (inr past) = let same : row ≡ first = omega (arith, le, past) in absurd (false≢true (sym (ap not ((Decides-eqb row first).1 same)) ∙ e))

pub either_way : (b : Bool) → (b ≡ true) ⊎ (b ≡ false)
either_way true = inl refl
either_way false = inr refl

-- ---- the points of a local

definition_kind : (d : ℕ) (k : PointKind) → such_by true d k ≡ true → k ≡ kind.Definition d
definition_kind d kind.Entry e = absurd (false≢true e)
definition_kind d kind.Exit e = absurd (false≢true e)
definition_kind d kind.Thrown e = absurd (false≢true e)
definition_kind d kind.Node e = absurd (false≢true e)
definition_kind d (kind.Definition n) e = ap kind.Definition ((Decides-eqb n d).0 e)
definition_kind d (kind.Use n) e = absurd (false≢true e)

use_kind : (d : ℕ) (k : PointKind) → such_by false d k ≡ true → k ≡ kind.Use d
use_kind d kind.Entry e = absurd (false≢true e)
use_kind d kind.Exit e = absurd (false≢true e)
use_kind d kind.Thrown e = absurd (false≢true e)
use_kind d kind.Node e = absurd (false≢true e)
use_kind d (kind.Definition n) e = absurd (false≢true e)
use_kind d (kind.Use n) e = ap kind.Use ((Decides-eqb n d).0 e)

such_definition : (d : ℕ) (k : PointKind) → such_by true d k ≡ is_definition d k
such_definition d kind.Entry = refl
such_definition d kind.Exit = refl
such_definition d kind.Thrown = refl
such_definition d kind.Node = refl
such_definition d (kind.Definition e) = refl
such_definition d (kind.Use e) = refl

same_eq : (d : ℕ) → nat_eq d d ≡ true
same_eq d = (Decides-eqb d d).1 refl

pub such_none : (points : List Point) (b : Bool) (d : ℕ) → AreSuch points b d 0 []
such_none points b d k = (λ c. absurd (none_in k c), λ lt. absurd (omega (arith, lt)))

if_out : (b : Bool) (n k : ℕ) → Contains {X = ℕ} (if b then n ∷ [] else []) k → (b ≡ true) × (n ≡ k)
if_out true n k c = ⊎_elim (λ same. (refl, same)) (λ more. absurd (none_in k more)) (contains_out n [] k c)
if_out false n k c = absurd (none_in k c)

pub such_more : (points : List Point) (b : Bool) (d n : ℕ) (all : List ℕ) (x : Point) → slice_get points n ≡ Some x → AreSuch points b d n all → AreSuch points b d (n + 1) (all ++ (if is_such b d x then n ∷ [] else []))
such_more points b d n all x at h k = (
  λ c. ⊎_elim (λ early. (h k).0 early)
      (λ late. let o = if_out (is_such b d x) n k late in record { point = x; stands = ap (slice_get points) (sym o.1) ∙ at; passes = o.0 })
      (Contains-append_cases all (if is_such b d x then n ∷ [] else []) k c),
  λ lt s. ⊎_elim (λ early. Contains-append_left all (if is_such b d x then n ∷ [] else []) k ((h k).1 early s))
      (λ past. let same : n ≡ k = omega (arith, lt, past) in let is_x : s.point ≡ x = same_Some s.point x (sym s.stands ∙ ap (slice_get points) (sym same) ∙ at) in
      Contains-append_right all (if is_such b d x then n ∷ [] else []) k
      (subst (λ (t : Bool). Contains {X = ℕ} (if t then n ∷ [] else []) k) (sym (ap (is_such b d) (sym is_x) ∙ s.passes)) (subst (λ m. Contains (n ∷ []) m) same (contains_first n []))))
      (cases_lt k n),
)

-- ---- ways between

module _ (points : List Point) (steps : StepList) (d : ℕ) (within : AreWithin (length points) steps) (definitions uses : List ℕ) (are : AreSuch points true d (length points) definitions) (used : AreSuch points false d (length points) uses)
    (barred : Stamps) (bars : (n : ℕ) → is_stamped barred n ≡ true → Contains definitions n) where
  abbrev Stops : ℕ → Type 0
  Stops k = PassesAt points (is_definition_of d) k

  free : (k : ℕ) → (Stops k → ⊥) → is_stamped barred k ≡ false
  free k apart = never_true (is_stamped barred k) (λ s. let o = (are k).0 (bars k s) in apart (record { point = o.point; stands = o.stands; passes = sym (such_definition d o.point.kind) ∙ o.passes }))

  module _ (ways : Lists) (are_ways : AreWays ways (length points) steps) where
    path_spread : (i k : ℕ) → Contains definitions i → StepPath steps Stops i k → (Stops k → ⊥) → IsSpread (under_in ways) definitions barred (length points) k
    path_spread i k from (StepPath.step t c) apart = let lt = within i k t c in IsSpread.first from ((are_ways i k lt.0).1 (t, c)) lt.1 (free k apart)
    path_spread i k from (StepPath.on {k = m} t path stop c) apart = let lt = within m k t c in IsSpread.on (path_spread i m from path stop) ((are_ways m k lt.0).1 (t, c)) lt.1 (free k apart)

  module _ (back : Lists) (are_back : AreWaysBack back (length points) steps) where
    abbrev Spreads : ℕ → Type 0
    Spreads k = IsSpread (under_in back) uses barred (length points) k

    path_back : (k x : ℕ) → ((y : ℕ) → HasStepTo steps y x → (Stops y → ⊥) → Spreads y) → StepPath steps Stops k x → (Stops k → ⊥) → Spreads k
    path_back k x source (StepPath.step t c) apart = source k (t, c) apart
    path_back k x source (StepPath.on {k = m} t path stop c) apart = path_back k m
        (λ y s a. let lt = within y m s.0 s.1 in IsSpread.on (source m (t, c) stop) ((are_back m y lt.1).1 s) lt.0 (free y a)) path apart

  pub are_between : (ways back : Lists) (behind before : Stamps) → AreWays ways (length points) steps → AreWaysBack back (length points) steps → AreSpread (under_in ways) definitions barred (length points) behind
      → AreSpread (under_in back) uses barred (length points) before → AreBetween points steps d behind before
  are_between ways back behind before are_ways are_back spread spread_back k b apart = (
    spread k (path_spread ways are_ways b.from k from b.before apart),
    spread_back k (path_back back are_back k b.to (λ y s a. let lt = within y b.to s.0 s.1 in IsSpread.first to ((are_back b.to y lt.1).1 s) lt.0 (free y a)) b.after apart),
  )
    where
      from : Contains definitions b.from
      from = (are b.from).1 (get_inside points b.from _ b.defines) (record { point = record { row = b.row; kind = kind.Definition d }; stands = b.defines; passes = same_eq d })

      to : Contains uses b.to
      to = (used b.to).1 (get_inside points b.to _ b.uses) (record { point = record { row = b.used_at; kind = kind.Use d }; stands = b.uses; passes = same_eq d })

  -- nothing else is met
  module _ (bars_all : (n : ℕ) → Contains definitions n → n < length points → is_stamped barred n ≡ true) where
    apart_from : (k : ℕ) → k < length points → is_stamped barred k ≡ false → Stops k → ⊥
    apart_from k lt apart s = false≢true (sym apart ∙ bars_all k ((are k).1 lt (record { point = s.point; stands = s.stands; passes = such_definition d s.point.kind ∙ s.passes })) lt)

    spread_apart : (ways : ℕ → List ℕ) (from : List ℕ) (k : ℕ) → IsSpread ways from barred (length points) k → Stops k → ⊥
    spread_apart ways from k (IsSpread.first f c lt apart) = apart_from k lt apart
    spread_apart ways from k (IsSpread.on w c lt apart) = apart_from k lt apart

    spread_inside : (ways : ℕ → List ℕ) (from : List ℕ) (k : ℕ) → IsSpread ways from barred (length points) k → k < length points
    spread_inside ways from k (IsSpread.first f c lt apart) = lt
    spread_inside ways from k (IsSpread.on w c lt apart) = lt

    spread_path : (ways : Lists) → AreWays ways (length points) steps → (k : ℕ) → IsSpread (under_in ways) definitions barred (length points) k → (i : ℕ) × Contains definitions i × StepPath steps Stops i k
    spread_path ways are_ways k (IsSpread.first {i = i} f c lt apart) =
        let o = (are i).0 f in let s = (are_ways i k (get_inside points i o.point o.stands)).0 c in (i, f, StepPath.step s.0 s.1)
    spread_path ways are_ways k (IsSpread.on {i = i} w c lt apart) =
        let early = spread_path ways are_ways i w in let s = (are_ways i k (spread_inside (under_in ways) definitions i w)).0 c in
        (early.0, early.1, StepPath.on s.0 early.2 (spread_apart (under_in ways) definitions i w) s.1)

    path_from : (i k j : ℕ) (t : Bool) → Contains steps (i, k, t) → (Stops k → ⊥) → StepPath steps Stops k j → StepPath steps Stops i j
    path_from i k j t c apart (StepPath.step u h) = StepPath.on u (StepPath.step t c) apart h
    path_from i k j t c apart (StepPath.on {k = m} u path stop h) = StepPath.on u (path_from i k m t c apart path) stop h

    back_path : (back : Lists) → AreWaysBack back (length points) steps → (k : ℕ) → IsSpread (under_in back) uses barred (length points) k → (j : ℕ) × Contains uses j × StepPath steps Stops k j
    back_path back are_back k (IsSpread.first {i = i} f c lt apart) =
        let o = (used i).0 f in let s = (are_back i k (get_inside points i o.point o.stands)).0 c in (i, f, StepPath.step s.0 s.1)
    back_path back are_back k (IsSpread.on {i = i} w c lt apart) =
        let late = back_path back are_back i w in let s = (are_back i k (spread_inside (under_in back) uses i w)).0 c in
        (late.0, late.1, path_from k i late.0 s.0 s.1 (spread_apart (under_in back) uses i w) late.2)

    pub only_between : (ways back : Lists) (behind before : Stamps) → AreWays ways (length points) steps → AreWaysBack back (length points) steps → OnlySpread (under_in ways) definitions barred (length points) behind
        → OnlySpread (under_in back) uses barred (length points) before → OnlyBetween points steps d behind before
    only_between ways back behind before are_ways are_back spread spread_back k is_behind is_before = (
      record {
        from = first.0;
        to = last.0;
        row = defined.point.row;
        used_at = reads.point.row;
        defines = defined.stands ∙ ap (λ (c : PointKind). point defined.point.row c) (definition_kind d defined.point.kind defined.passes);
        uses = reads.stands ∙ ap (λ (c : PointKind). point reads.point.row c) (use_kind d reads.point.kind reads.passes);
        before = first.2;
        after = last.2;
      },
      spread_apart (under_in ways) definitions k (spread k is_behind),
    )
      where
        first : (i : ℕ) × Contains definitions i × StepPath steps Stops i k
        first = spread_path ways are_ways k (spread k is_behind)

        last : (j : ℕ) × Contains uses j × StepPath steps Stops k j
        last = back_path back are_back k (spread_back k is_before)

        defined : PassesAt points (is_such true d) first.0
        defined = (are first.0).0 first.1

        reads : PassesAt points (is_such false d) last.0
        reads = (used last.0).0 last.1

-- ---- throws

pub throw_found : (first end : ℕ) (points : List Point) (steps : List Step) (n : ℕ) (told one both : Bool) → one ≡ throws first end points (slice_get steps n) → both ≡ (told || one) → (told ≡ true → HasThrow first end points steps)
    → both ≡ true → HasThrow first end points steps
throw_found first end points steps n told one both is either h e = ⊎_elim h (λ now. record { number = n; is = sym is ∙ now }) (or_true told one (sym either ∙ e))

pub throw_more : (first end : ℕ) (points : List Point) (steps : List Step) (n : ℕ) (told one both : Bool) → one ≡ throws first end points (slice_get steps n) → both ≡ (told || one) → MayThrow first end points steps n told → MayThrow first end points steps (n + 1) both
throw_more first end points steps n told one both is either h none k lt = let neither = or_false told one (sym either ∙ none) in
    ⊎_elim (λ early. h neither.0 k early) (λ past. let same : n ≡ k = omega (arith, lt, past) in ap (λ m. throws first end points (slice_get steps m)) (sym same) ∙ sym is ∙ neither.1) (cases_lt k n)

-- a step of the list
pub record Stepping (all : List Step) (x : ℕ × ℕ × Bool) : Type 0 where
  pub place : ℕ
  pub step : Step
  pub stands : slice_get all place ≡ Some step
  pub seen : step_seen step ≡ x

pub step_got : (all : List Step) (x : ℕ × ℕ × Bool) → Contains (map step_seen all) x → Stepping all x
step_got [] x c = absurd (none_in x c)
step_got (s ∷ all) x c = ⊎_elim (λ same. record { place = 0; step = s; stands = refl; seen = same })
    (λ more. let o = step_got all x more in record { place = suc o.place; step = o.step; stands = o.stands; seen = o.seen }) (contains_out (step_seen s) (map step_seen all) x c)

throws_told : (first end : ℕ) (points : List Point) (steps : List Step) (told : Bool) → MayThrow first end points steps (length steps) told → ThrowsInside points (map step_seen steps) first end → told ≡ true
throws_told first end points steps told h t = ⊎_elim (λ is. is) (λ none. absurd (false≢true (sym (h none o.place (get_inside steps o.place o.step o.stands)) ∙ here))) (either_way told)
  where
    o : Stepping steps (t.from, t.to, true)
    o = step_got steps (t.from, t.to, true) t.step

    here : throws first end points (slice_get steps o.place) ≡ true
    here = ap (throws first end points) o.stands
        ∙ and_true o.step.is_throw (is_point_inside first end (slice_get points o.step.from)) (ap (λ (x : ℕ × ℕ × Bool). x.2) o.seen)
        (ap (λ m. is_point_inside first end (slice_get points m)) (ap (λ (x : ℕ × ℕ × Bool). x.0) o.seen) ∙ ap (is_point_inside first end) t.stands ∙ t.inside)

-- ---- locals that are held

pub below_more : (points : List Point) (n old new : ℕ) (local : Option ℕ) → local ≡ local_at (slice_get points n) → old ≤ new → IfSome local (λ d. d < new) → AreLocalsBelow points n old → AreLocalsBelow points (n + 1) new
below_more points n old new local is le here h k d lt e = ⊎_elim (λ early. let less = h k d early e in omega (arith, less, le))
    (λ past. let same : n ≡ k = omega (arith, lt, past) in subst (λ (o : Option ℕ). IfSome o (λ m. m < new)) (is ∙ ap (λ m. local_at (slice_get points m)) same ∙ e) here) (cases_lt k n)

pub adds_some : (old new : Stamps) (bound local : ℕ) (is_new : Bool) → AddsStamp old new bound local is_new → AddsIf old new bound (Some local)
adds_some old new bound local is_new adds = record {
  counted = adds.counted;
  kept = adds.kept;
  here = λ n e lt. subst (λ m. is_stamped new m ≡ true) (same_Some local n e) (⊎_elim (λ is. (adds.new_one is).1) (λ not_new. adds.kept local (adds.was (subst (λ m. m < bound) (sym (same_Some local n e)) lt) not_new)) (either_way is_new));
  out = λ n s. ⊎_elim (λ early. inl early) (λ same. inr (ap Some same)) (adds.out n s);
}

pub adds_none : (set : Stamps) (bound : ℕ) → IsStamping set bound → AddsIf set set bound None
adds_none set bound counted = record { counted = counted; kept = λ n s. s; here = λ n e. absurd (none-some n e); out = λ n s. inl s }

held_local : (k : PointKind) (inside may_throw : Bool) (d : ℕ) → held_by k inside may_throw ≡ Some d → local_of k ≡ Some d
held_local (kind.Definition e) inside true d h = h
held_local (kind.Definition e) inside false d h = absurd (none-some d h)
held_local (kind.Use e) true may_throw d h = h
held_local (kind.Use e) false may_throw d h = absurd (none-some d h)
held_local kind.Entry inside may_throw d h = absurd (none-some d h)
held_local kind.Exit inside may_throw d h = absurd (none-some d h)
held_local kind.Thrown inside may_throw d h = absurd (none-some d h)
held_local kind.Node inside may_throw d h = absurd (none-some d h)

held_among : (first end : ℕ) (may_throw : Bool) (o : Option Point) (d : ℕ) → held_at first end may_throw o ≡ Some d → local_at o ≡ Some d
held_among first end may_throw None d h = absurd (none-some d h)
held_among first end may_throw (Some x) d h = held_local x.kind (is_inside first end x.row) may_throw d h

pub held_more : (first end : ℕ) (may_throw : Bool) (points : List Point) (n bound : ℕ) (set added : Stamps) (local : Option ℕ) → local ≡ held_at first end may_throw (slice_get points n) → n < length points → AreLocalsBelow points (length points) bound → AddsIf set added bound local
    → AreHeld first end may_throw points n set → AreHeld first end may_throw points (n + 1) added
held_more first end may_throw points n bound set added local is less below adds h k d lt e = ⊎_elim (λ early. adds.kept d (h k d early e))
    (λ past. let same : n ≡ k = omega (arith, lt, past) in let here = ap (λ m. held_at first end may_throw (slice_get points m)) same ∙ e in
    adds.here d (is ∙ here) (below n d less (held_among first end may_throw (slice_get points n) d here))) (cases_lt k n)

pub only_held_more : (first end : ℕ) (may_throw : Bool) (points : List Point) (n bound : ℕ) (set added : Stamps) (local : Option ℕ) → local ≡ held_at first end may_throw (slice_get points n) → AddsIf set added bound local
    → OnlyHeld first end may_throw points set → OnlyHeld first end may_throw points added
only_held_more first end may_throw points n bound set added local is adds h d s = ⊎_elim (λ early. h d early) (λ now. record { number = n; held = sym is ∙ now }) (adds.out d s)

some_out : (j d : ℕ) (b : Bool) → some_if j b ≡ Some d → (b ≡ true) × (j ≡ d)
some_out j d true e = (refl, same_Some j d e)
some_out j d false e = absurd (none-some d e)

pub step_there : (all : List Step) (n : ℕ) (s : Step) → slice_get all n ≡ Some s → Contains (map step_seen all) (step_seen s)
step_there [] n s e = let lt = get_inside [] n s e in absurd (omega (arith, lt))
step_there (x ∷ all) zero s e = subst (λ z. Contains (map step_seen (x ∷ all)) (step_seen z)) (same_Some x s e) (contains_first (step_seen x) (map step_seen all))
step_there (x ∷ all) (suc n) s e = contains_more (step_seen x) (map step_seen all) (step_seen s) (step_there all n s e)

-- a local that is held is so by the definition
module _ (p : Rows) (points : List Point) (steps : List Step) (d last : ℕ) (may_throw : Bool) (is : last ≡ end p d) (may : may_throw ≡ true → HasThrow d last points steps) where
  abbrev Throws : Type 0
  Throws = ThrowsInside points (map step_seen steps) d (end p d)

  thrown_from : (n : ℕ) (s : Step) → slice_get steps n ≡ Some s → s.is_throw ≡ true → (o : Option Point) → slice_get points s.from ≡ o → is_point_inside d last o ≡ true → Throws
  thrown_from n s at thrown None stands e = absurd (false≢true e)
  thrown_from n s at thrown (Some x) stands e = record {
    from = s.from;
    to = s.to;
    point = x;
    step = subst (λ t. Contains (map step_seen steps) (s.from, s.to, t)) thrown (step_there steps n s at);
    stands = stands;
    inside = subst (λ e. is_inside d e x.row ≡ true) is e;
  }

  thrown_by : (n : ℕ) (o : Option Step) → slice_get steps n ≡ o → throws d last points o ≡ true → Throws
  thrown_by n None at e = absurd (false≢true e)
  thrown_by n (Some s) at e = let both = and_out s.is_throw (is_point_inside d last (slice_get points s.from)) e in thrown_from n s at both.0 (slice_get points s.from) refl both.1

  throw_stands : may_throw ≡ true → Throws
  throw_stands e = let one = may e in thrown_by one.number (slice_get steps one.number) refl one.is

  held_so : (n row local : ℕ) (k : PointKind) → slice_get points n ≡ point row k → held_by k (is_inside d last row) may_throw ≡ Some local → IsHeld p points (map step_seen steps) d local
  held_so n row local kind.Entry at e = absurd (none-some local e)
  held_so n row local kind.Exit at e = absurd (none-some local e)
  held_so n row local kind.Thrown at e = absurd (none-some local e)
  held_so n row local kind.Node at e = absurd (none-some local e)
  held_so n row local (kind.Definition j) at e = IsHeld.throwing (throw_stands (some_out j local may_throw e).0)
  held_so n row local (kind.Use j) at e = let o = some_out j local (is_inside d last row) e in IsHeld.used n row (at ∙ ap (λ m. point row (kind.Use m)) o.1) (subst (λ e. is_inside d e row ≡ true) is o.0)

  held_of : (n local : ℕ) (o : Option Point) → slice_get points n ≡ o → held_at d last may_throw o ≡ Some local → IsHeld p points (map step_seen steps) d local
  held_of n local None at e = absurd (none-some local e)
  held_of n local (Some x) at e = held_so n x.row local x.kind at e

  pub held_stands : (local : ℕ) → IsHeldAt d last may_throw points local → IsHeld p points (map step_seen steps) d local
  held_stands local h = held_of h.number local (slice_get points h.number) refl h.held

-- ---- what disturbs

pub none_more : (first end : ℕ) (held behind before : Stamps) (points : List Point) (n : ℕ) (x : Point) → slice_get points n ≡ Some x → NoneDisturbs first end held behind before points n → disturbs first end held behind before n x ≡ false → NoneDisturbs first end held behind before points (n + 1)
none_more first end held behind before points n x at early now k y lt e = ⊎_elim (λ less. early k y less e)
    (λ past. let same : n ≡ k = omega (arith, lt, past) in let is_x : x ≡ y = same_Some x y (sym at ∙ ap (slice_get points) same ∙ e) in
    subst (λ z. disturbs first end held behind before k z ≡ false) is_x (subst (λ m. disturbs first end held behind before m x ≡ false) same now)) (cases_lt k n)

pub undisturbed : (p : Rows) (points : List Point) (steps : List Step) (d last : ℕ) (may_throw : Bool) (held behind before : Stamps) → last ≡ end p d → MayThrow d last points steps (length steps) may_throw → AreHeld d last may_throw points (length points) held
    → AreBetween points (map step_seen steps) d behind before → NoneDisturbs d last held behind before points (length points) → IsUndisturbed p points (map step_seen steps) d
undisturbed p points steps d last may_throw held behind before is may are between none = record {
  inside = λ k row local at in_it. false≢true (sym (or_false (is_inside d last row) (is_changed held behind before k local) (told k row local at)).0 ∙ (ap (λ e. is_inside d e row) is ∙ in_it));
  between = λ k row local at other holds b. let both = between k b (λ s. other (defined k row local at s)) in
      false≢true (sym (or_false (is_inside d last row) (is_changed held behind before k local) (told k row local at)).1
      ∙ and_true (is_stamped held local && is_stamped behind k) (is_stamped before k) (and_true (is_stamped held local) (is_stamped behind k) (is_held k row local at holds) both.0) both.1);
}
  where
    told : (k row local : ℕ) → slice_get points k ≡ point row (kind.Definition local) → (is_inside d last row || is_changed held behind before k local) ≡ false
    told k row local at = none k (record { row = row; kind = kind.Definition local }) (get_inside points k _ at) at

    defined : (k row local : ℕ) → slice_get points k ≡ point row (kind.Definition local) → PassesAt points (is_definition_of d) k → local ≡ d
    defined k row local at s = (Decides-eqb local d).0 (subst (λ x. is_definition d x.kind ≡ true) (same_Some s.point (record { row = row; kind = kind.Definition local }) (sym s.stands ∙ at)) s.passes)

    is_held : (k row local : ℕ) → slice_get points k ≡ point row (kind.Definition local) → IsHeld p points (map step_seen steps) d local → is_stamped held local ≡ true
    is_held k row local at (IsHeld.used j used_at stands in_it) = are j local (get_inside points j _ stands)
        (ap (held_at d last may_throw) stands ∙ ap (λ t. some_if local t) (ap (λ e. is_inside d e used_at) is ∙ in_it))
    is_held k row local at (IsHeld.throwing t) = are k local (get_inside points k _ at)
        (ap (held_at d last may_throw) at ∙ ap (λ b. some_if local b) (throws_told d last points steps may_throw may (subst (λ e. ThrowsInside points (map step_seen steps) d e) (sym is) t)))

pub none_told : (first end : ℕ) (held behind before : Stamps) (points : List Point) (n : ℕ) (x : Point) (is_such : Bool) (a b c : Firsts) → slice_get points n ≡ Some x → is_such ≡ disturbs first end held behind before n x
    → Tells a b (NoneDisturbs first end held behind before points n) → Tells b c (is_such ≡ false) → Tells a c (NoneDisturbs first end held behind before points (n + 1))
none_told first end held behind before points n x is_such a b c at is early now =
    tells_like a c (NoneDisturbs first end held behind before points n × (is_such ≡ false)) (NoneDisturbs first end held behind before points (n + 1))
    (λ both. none_more first end held behind before points n x at both.0 (sym is ∙ both.1))
    (λ all. (λ k y lt e. all k y (omega (arith, lt)) e, is ∙ all n x (omega arith) at)) (tells_both a b c (NoneDisturbs first end held behind before points n) (is_such ≡ false) early now)

-- nothing disturbs by the tests where nothing does by the definition
pub none_disturbs : (p : Rows) (points : List Point) (steps : List Step) (d last : ℕ) (may_throw : Bool) (held behind before : Stamps) → last ≡ end p d → (may_throw ≡ true → HasThrow d last points steps) → OnlyHeld d last may_throw points held
    → OnlyBetween points (map step_seen steps) d behind before → IsUndisturbed p points (map step_seen steps) d → NoneDisturbs d last held behind before points (length points)
none_disturbs p points steps d last may_throw held behind before is may only between calm k x lt at = by x.kind refl
  where
    stands : (local : ℕ) → x.kind ≡ kind.Definition local → slice_get points k ≡ point x.row (kind.Definition local)
    stands local e = at ∙ ap (λ (c : PointKind). point x.row c) e

    not_inside : (local : ℕ) → x.kind ≡ kind.Definition local → is_inside d last x.row ≡ true → ⊥
    not_inside local e in_it = calm.inside k x.row local (stands local e) (subst (λ e. is_inside d e x.row ≡ true) is in_it)

    unchanged : (local : ℕ) → x.kind ≡ kind.Definition local → is_changed held behind before k local ≡ true → ⊥
    unchanged local e changed =
        let both = and_out (is_stamped held local && is_stamped behind k) (is_stamped before k) changed in
        let first = and_out (is_stamped held local) (is_stamped behind k) both.0 in
        let way = between k first.1 both.1 in
        calm.between k x.row local (stands local e)
        (λ same. way.1 (record { point = x; stands = at; passes = ap (is_definition d) e ∙ ap (λ n. is_definition d (kind.Definition n)) same ∙ same_eq d }))
        (held_stands p points steps d last may_throw is may local (only local first.0)) way.0

    by : (c : PointKind) → x.kind ≡ c → disturbs_by x.kind (is_inside d last x.row) held behind before k ≡ false
    by kind.Entry e = ap (λ c. disturbs_by c (is_inside d last x.row) held behind before k) e
    by kind.Exit e = ap (λ c. disturbs_by c (is_inside d last x.row) held behind before k) e
    by kind.Thrown e = ap (λ c. disturbs_by c (is_inside d last x.row) held behind before k) e
    by kind.Node e = ap (λ c. disturbs_by c (is_inside d last x.row) held behind before k) e
    by (kind.Use local) e = ap (λ c. disturbs_by c (is_inside d last x.row) held behind before k) e
    by (kind.Definition local) e = ap (λ c. disturbs_by c (is_inside d last x.row) held behind before k) e
        ∙ never_true (is_inside d last x.row || is_changed held behind before k local) (λ either. ⊎_elim (not_inside local e) (unchanged local e) (or_true (is_inside d last x.row) (is_changed held behind before k local) either))
