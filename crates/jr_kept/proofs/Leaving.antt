-- Of graphs with more points and steps: no other value leaves the method, and none is lost but by a use behind it.
use Rattle.std.proofs.Common.{◌≡◌, ◌⊎◌, inl, inr, ⊎_elim, refl, sym, ◌∙◌, ap, subst, arith, ℕ, ◌<◌, ◌≤◌, Bool, true, false, not, ◌&&◌, List, [], ◌∷◌, ◌++◌, length, map, Option, Some, None, is_some, nat_eq, nat_lt, slice_get}
use Rattle.std.specs.List.{Contains}
use Rattle.std.proofs.lemmas.Bool.{false≢true, cases_lt}
use Rattle.std.proofs.lemmas.Bool.Decides.{Decides-ltb}
use Rattle.std.proofs.lemmas.Option.{none-some, same_Some}
use Rattle.std.proofs.lemmas.List.Elements.{Contains-append_left, Contains-append_cases, Contains-push, Contains-push_cases}
use Rattle.jr_flow_defs.specs.declared.point.Point.{Point}
use Rattle.jr_flow_defs.specs.declared.point.PointKind.{PointKind}
use Rattle.jr_flow_defs.specs.declared.point.PointKind.TheVariants as kind
use Rattle.jr_flow_defs.specs.Edges.{point}
use Rattle.jr_flow_defs.specs.Graphs.{StepList, StepPath, PassesAt, is_definition_of}
use Rattle.jr_flow_defs.proofs.Searched.{contains_out, contains_first, contains_more}
use Rattle.jr_flow.specs.declared.point.Graph as code
use Rattle.jr_flow.specs.declared.point.Step as code_step
use Rattle.jr_flow.specs.Reached.{step_seen, steps_of, AreReaching}
use Rattle.jr_flow.proofs.Gets.{got}
use Rattle.jr_kept.specs.declared.carried.Value.{Value}
use Rattle.jr_kept.specs.declared.handing.Handing.{Handing}
use Rattle.jr_kept.specs.declared.edges.Firsts.{Firsts}
use Rattle.jr_kept.specs.Ordered.{Tells}
use Rattle.jr_kept.specs.Disturbed.{local_of}
use Rattle.jr_kept.specs.Gathered.{use_in, pair_of}
use Rattle.jr_kept.specs.Searched.{AreWithin}
use Rattle.jr_kept.specs.Spliced.{exit_number}
use Rattle.jr_kept.specs.Carried.{is_exit_at, is_exit_kind, Includes, Grows, OnlyBehind, IsDefinedTo, OnlyDefines, value_by, value_at, item_of, values_by, OnlyLeaving, pairs_by, OnlyCopies, HasHub, OnlyHub, HasExits, IsUsedBehind, IsOf, IsOtherOf, IsCopyOf, IsCopyOfOne, IsOtherCopy, NoneBehind, IsUnlostBy}
use Rattle.jr_kept.proofs.Naming.{get_inside}
use Rattle.jr_kept.proofs.Telling.{tells_both, tells_like}
use Rattle.jr_kept.proofs.Carrying.{seen_more, point_now, exit_point, and_last}

-- ---- steps that are put

pub step_before : (steps more : List code_step.Step) (s : code_step.Step) → more ≡ steps ++ s ∷ [] → (x : ℕ × ℕ × Bool) → Contains (map step_seen more) x → Contains (map step_seen steps) x ⊎ (step_seen s ≡ x)
step_before steps more s e x c = Contains-push_cases (map step_seen steps) (step_seen s) x (subst (λ xs. Contains xs x) (seen_more steps more s e) c)

pub used_only : (old new : code.Graph) (from to : ℕ) → new.steps.items ≡ old.steps.items ++ record { from = from; to = to; is_throw = false } ∷ [] → to ≡ length old.points.items → OnlyBehind old new from
used_only old new from to f is i j t c = ⊎_elim (λ early. inl early)
    (λ same. let ends : to ≡ j = ap (λ (x : ℕ × ℕ × Bool). x.1) same in inr (sym (ap (λ (x : ℕ × ℕ × Bool). x.0) same), omega (arith, ends, is)))
    (step_before old.steps.items new.steps.items (record { from = from; to = to; is_throw = false }) f (i, j, t) c)

pub defined_only : (old new : code.Graph) (from to row local : ℕ) → new.points.items ≡ old.points.items ++ record { row = row; kind = kind.Definition local } ∷ []
    → new.steps.items ≡ old.steps.items ++ record { from = from; to = to; is_throw = false } ∷ [] → from ≡ length old.points.items → OnlyDefines old new to (IsOf row local)
defined_only old new from to row local e f is i j t c = ⊎_elim (λ early. inl early)
    (λ same. let begins : from ≡ i = ap (λ (x : ℕ × ℕ × Bool). x.0) same in inr (record {
      row = row;
      local = local;
      is = (refl, refl);
      late = omega (arith, begins, is);
      ends = sym (ap (λ (x : ℕ × ℕ × Bool). x.1) same);
      defines = subst (λ n. slice_get new.points.items n ≡ point row (kind.Definition local)) begins (point_now old.points.items new.points.items (record { row = row; kind = kind.Definition local }) from e is);
    }))
    (step_before old.steps.items new.steps.items (record { from = from; to = to; is_throw = false }) f (i, j, t) c)

pub behind_same : (graph : code.Graph) (from : ℕ) → OnlyBehind graph graph from
behind_same graph from i j t h = inl h

pub behind_both : (a b c : code.Graph) (from : ℕ) → Grows a b → OnlyBehind a b from → OnlyBehind b c from → OnlyBehind a c from
behind_both a b c from grows first second i j t h = ⊎_elim (λ early. first i j t early) (λ o. let few = grows.few in let late = o.1 in inr (o.0, omega (arith, few, late))) (second i j t h)

pub defines_same : (graph : code.Graph) (to : ℕ) (P : ℕ → ℕ → Type 0) → OnlyDefines graph graph to P
defines_same graph to P i j t h = inl h

pub defines_like : (a b : code.Graph) (to : ℕ) (P Q : ℕ → ℕ → Type 0) → ((r l : ℕ) → P r l → Q r l) → OnlyDefines a b to P → OnlyDefines a b to Q
defines_like a b to P Q f only i j t h = ⊎_elim (λ early. inl early)
    (λ d. inr (record { row = d.row; local = d.local; is = f d.row d.local d.is; late = d.late; ends = d.ends; defines = d.defines })) (only i j t h)

pub defines_both : (a b c : code.Graph) (to : ℕ) (P Q R : ℕ → ℕ → Type 0) → Grows a b → Grows b c → ((r l : ℕ) → P r l → R r l) → ((r l : ℕ) → Q r l → R r l) → OnlyDefines a b to P → OnlyDefines b c to Q → OnlyDefines a c to R
defines_both a b c to P Q R grows more f g first second i j t h = ⊎_elim
    (λ early. ⊎_elim (λ old. inl old)
    (λ d. inr (record { row = d.row; local = d.local; is = f d.row d.local d.is; late = d.late; ends = d.ends; defines = more.kept i (record { row = d.row; kind = kind.Definition d.local }) d.defines })) (first i j t early))
    (λ d. let few = grows.few in let late = d.late in inr (record { row = d.row; local = d.local; is = g d.row d.local d.is; late = omega (arith, few, late); ends = d.ends; defines = d.defines }))
    (second i j t h)

-- ---- which definitions are put

pub other_of : (value : Value) (copy r l : ℕ) → (value.local ≡ copy → ⊥) → IsOf value.row copy r l → IsOtherOf value (copy ∷ []) r l
other_of value copy r l apart is = record {
  row = is.0;
  among = subst (λ n. Contains (copy ∷ []) n) (sym is.1) (contains_first copy []);
  apart = λ same. apart (same ∙ is.1);
}

pub other_early : (value : Value) (some : List ℕ) (x r l : ℕ) → IsOtherOf value some r l → IsOtherOf value (some ++ x ∷ []) r l
other_early value some x r l o = record { row = o.row; among = Contains-append_left some (x ∷ []) l o.among; apart = o.apart }

pub other_late : (value : Value) (some : List ℕ) (x r l : ℕ) → IsOtherOf value (x ∷ []) r l → IsOtherOf value (some ++ x ∷ []) r l
other_late value some x r l o = record {
  row = o.row;
  among = ⊎_elim (λ same. subst (λ n. Contains (some ++ x ∷ []) n) same (Contains-push some x)) (λ more. absurd (omega (arith, more.1))) (contains_out x [] l o.among);
  apart = o.apart;
}

pub copy_of_early : (some : List Value) (x : Value) (copies : ℕ → List ℕ) (origin : ℕ → Option ℕ) (r l : ℕ) → IsCopyOfOne some copies origin r l → IsCopyOfOne (some ++ x ∷ []) copies origin r l
copy_of_early some x copies origin r l o = record { value = o.value; member = Contains-append_left some (x ∷ []) o.value o.member; copy = o.copy }

pub copy_of_late : (some : List Value) (x : Value) (copies : ℕ → List ℕ) (origin : ℕ → Option ℕ) (r l : ℕ) → IsCopyOf x copies origin r l → IsCopyOfOne (some ++ x ∷ []) copies origin r l
copy_of_late some x copies origin r l o = record { value = x; member = Contains-push some x; copy = o }

-- ---- values that leave the method

item_out : (o : Option Value) (v : Value) → Contains (item_of o) v → o ≡ Some v
item_out None v c = absurd (omega (arith, c.1))
item_out (Some w) v c = ⊎_elim (λ same. ap Some same) (λ more. absurd (omega (arith, more.1))) (contains_out w [] v c)

-- the value is that of one of the pairs
record IsValueOf (points : List Point) (handing : Handing) (count : ℕ) (pairs : List (ℕ × ℕ)) (v : Value) : Type 0 where
  pair : ℕ × ℕ
  among : Contains pairs pair
  is : value_at handing (slice_get points pair.0) (not (nat_lt pair.1 count)) ≡ Some v

values_out : (points : List Point) (handing : Handing) (count : ℕ) (pairs : List (ℕ × ℕ)) (v : Value) → Contains (values_by points handing count pairs) v → IsValueOf points handing count pairs v
values_out points handing count [] v c = absurd (omega (arith, c.1))
values_out points handing count (y ∷ pairs) v c = ⊎_elim
    (λ here. record { pair = y; among = contains_first y pairs; is = item_out (value_at handing (slice_get points y.0) (not (nat_lt y.1 count))) v here })
    (λ more. let o = values_out points handing count pairs v more in record { pair = o.pair; among = contains_more y pairs o.pair o.among; is = o.is })
    (Contains-append_cases (item_of (value_at handing (slice_get points y.0) (not (nat_lt y.1 count)))) (values_by points handing count pairs) v c)

-- the value is had at the point
record IsHadAt (handing : Handing) (o : Option Point) (is_such : Bool) (v : Value) : Type 0 where
  defines : o ≡ point v.row (kind.Definition v.local)
  own : use_in handing v.row ≡ None
  such : is_such ≡ true

no_use : (o : Option ℕ) → not (is_some o) ≡ true → o ≡ None
no_use None e = refl
no_use (Some k) e = absurd (false≢true e)

and_both : (a b : Bool) → (a && b) ≡ true → (a ≡ true) × (b ≡ true)
and_both true b e = (refl, e)
and_both false b e = absurd (false≢true e)

kind_had : (handing : Handing) (k : PointKind) (row : ℕ) (b is_such : Bool) (v : Value) → b ≡ (not (is_some (use_in handing row)) && is_such) → value_by k row b ≡ Some v → IsHadAt handing (point row k) is_such v
kind_had handing kind.Entry row b is_such v is e = absurd (none-some v e)
kind_had handing kind.Exit row b is_such v is e = absurd (none-some v e)
kind_had handing kind.Thrown row b is_such v is e = absurd (none-some v e)
kind_had handing kind.Node row b is_such v is e = absurd (none-some v e)
kind_had handing (kind.Use d) row b is_such v is e = absurd (none-some v e)
kind_had handing (kind.Definition d) row false is_such v is e = absurd (none-some v e)
kind_had handing (kind.Definition d) row true is_such v is e =
    let same = same_Some (record { row = row; local = d }) v e in let both = and_both (not (is_some (use_in handing row))) is_such (sym is) in record {
      defines = ap (λ (w : Value). point w.row (kind.Definition w.local)) same;
      own = subst (λ (w : Value). use_in handing w.row ≡ None) same (no_use (use_in handing row) both.0);
      such = both.1;
    }

value_had : (handing : Handing) (o : Option Point) (is_such : Bool) (v : Value) → value_at handing o is_such ≡ Some v → IsHadAt handing o is_such v
value_had handing None is_such v e = absurd (none-some v e)
value_had handing (Some x) is_such v e = kind_had handing x.kind x.row (not (is_some (use_in handing x.row)) && is_such) is_such v refl e

not_before : (j count : ℕ) → not (nat_lt j count) ≡ true → count ≤ j
not_before j count e = ⊎_elim (λ less. absurd (false≢true (sym (ap not ((Decides-ltb j count).1 less)) ∙ e))) (λ le. le) (cases_lt j count)

-- two points at one place
same_local : (o : Option Point) (a b d e : ℕ) → o ≡ point a (kind.Definition d) → o ≡ point b (kind.Definition e) → d ≡ e
same_local o a b d e f g = same_Some d e (ap (λ (x : Point). local_of x.kind) (same_Some (record { row = a; kind = kind.Definition d }) (record { row = b; kind = kind.Definition e }) (sym f ∙ g)))

no_node : (o : Option Point) (a b d : ℕ) (k : PointKind) → o ≡ point a kind.Node → o ≡ point b k → local_of k ≡ Some d → ⊥
no_node o a b d k f g is = none-some d (ap (λ (x : Point). local_of x.kind) (same_Some (record { row = a; kind = kind.Node }) (record { row = b; kind = k }) (sym f ∙ g)) ∙ is)

never_exit : (method a d : ℕ) (t : Bool) (o : Option Point) (k : PointKind) → is_exit_at method t o ≡ true → o ≡ point a k → local_of k ≡ Some d → ⊥
never_exit method a d t o k e f is = by k (and_last (nat_eq a method) (is_exit_kind t k) (sym (ap (is_exit_at method t) f) ∙ e)) is
  where
    by : (k : PointKind) → is_exit_kind t k ≡ true → local_of k ≡ Some d → ⊥
    by kind.Entry x y = none-some d y
    by kind.Exit x y = none-some d y
    by kind.Thrown x y = none-some d y
    by kind.Node x y = none-some d y
    by (kind.Use n) x y = false≢true x
    by (kind.Definition n) x y = false≢true x

-- what was there before is found as it was
old_get : (points more : List Point) (steps others : StepList) → Includes points steps more others → (k : ℕ) → k < length points → slice_get points k ≡ slice_get more k
old_get points more steps others inc k lt = let x = got points k lt in x.1 ∙ sym (inc.kept k x.0 x.1)

passes_on : (points more : List Point) (steps others : StepList) → Includes points steps more others → (test : Point → Bool) (k : ℕ) → PassesAt points test k → PassesAt more test k
passes_on points more steps others inc test k s = record { point = s.point; stands = inc.kept k s.point s.stands; passes = s.passes }

module _ (points : List Point) (steps : StepList) (made : code.Graph) (within : AreWithin (length points) steps) (inc : Includes points steps made.points.items (steps_of made)) (from : ℕ) (near : from < length points)
    (only : (i j : ℕ) (t : Bool) → Contains (steps_of made) (i, j, t) → Contains steps (i, j, t) ⊎ ((i ≡ from) × (length points ≤ j))) where
  stays : (i j : ℕ) (t : Bool) → j < length points → Contains (steps_of made) (i, j, t) → Contains steps (i, j, t)
  stays i j t lt c = ⊎_elim (λ old. old) (λ o. let late = o.1 in absurd (omega (arith, lt, late))) (only i j t c)

  old_path : (test : Point → Bool) (i j : ℕ) → j < length points → StepPath (steps_of made) (PassesAt made.points.items test) i j → StepPath steps (PassesAt points test) i j
  old_path test i j lt (StepPath.step t c) = StepPath.step t (stays i j t lt c)
  old_path test i j lt (StepPath.on {k = k} t path apart c) = let early = stays k j t lt c in
      StepPath.on t (old_path test i k (within k j t early).0 path) (λ s. apart (passes_on points made.points.items steps (steps_of made) inc test k s)) early

  begins_inside : (S : ℕ → Type 0) (i j : ℕ) → StepPath (steps_of made) S i j → i < length points
  begins_inside S i j (StepPath.step t c) = ⊎_elim (λ old. (within i j t old).0) (λ o. subst (λ n. n < length points) (sym o.0) near) (only i j t c)
  begins_inside S i j (StepPath.on {k = k} t path apart c) = begins_inside S i k path

  leaves_by : (i j : ℕ) (t : Bool) → length points ≤ j → Contains (steps_of made) (i, j, t) → i ≡ from
  leaves_by i j t late c = ⊎_elim (λ old. let lt = (within i j t old).1 in absurd (omega (arith, lt, late))) (λ o. o.0) (only i j t c)

  last_step : (test : Point → Bool) (i j : ℕ) → length points ≤ j → StepPath (steps_of made) (PassesAt made.points.items test) i j → (i ≡ from) ⊎ StepPath steps (PassesAt points test) i from
  last_step test i j late (StepPath.step t c) = inl (leaves_by i j t late c)
  last_step test i j late (StepPath.on {k = k} t path apart c) =
      inr (old_path test i from near (subst (λ n. StepPath (steps_of made) (PassesAt made.points.items test) i n) (leaves_by k j t late c) path))

pub only_leaving : (points : List Point) (steps : StepList) (made : code.Graph) (handing : Handing) (method : ℕ) (t : Bool) (pairs : List (ℕ × ℕ)) → AreWithin (length points) steps → HasExits points method
    → Includes points steps made.points.items (steps_of made) → ((i j : ℕ) (u : Bool) → Contains (steps_of made) (i, j, u) → Contains steps (i, j, u) ⊎ ((i ≡ exit_number t) × (length points ≤ j)))
    → AreReaching made.points.items (steps_of made) pairs → OnlyLeaving points steps handing (exit_number t) (values_by made.points.items handing (length points) pairs)
only_leaving points steps made handing method t pairs within exits inc only reaching v c = (
  record { from = from; defines = defines; path = ⊎_elim (λ same. absurd (at_exit same)) (λ path. path) way },
  had.own,
)
  where
    one : IsValueOf made.points.items handing (length points) pairs v
    one = values_out made.points.items handing (length points) pairs v c

    from : ℕ
    from = one.pair.0

    had : IsHadAt handing (slice_get made.points.items one.pair.0) (not (nat_lt one.pair.1 (length points))) v
    had = value_had handing (slice_get made.points.items one.pair.0) (not (nat_lt one.pair.1 (length points))) v one.is

    near : exit_number t < length points
    near = let x = exit_point method t (slice_get points (exit_number t)) (exits t) in get_inside points (exit_number t) x.0 x.1

    path : StepPath (steps_of made) (PassesAt made.points.items (is_definition_of v.local)) one.pair.0 one.pair.1
    path = let r = reaching.only one.pair.0 one.pair.1 one.among in
        subst (λ d. StepPath (steps_of made) (PassesAt made.points.items (is_definition_of d)) one.pair.0 one.pair.1) (same_local (slice_get made.points.items one.pair.0) r.from v.row r.local v.local r.defines had.defines) r.path

    inside : one.pair.0 < length points
    inside = begins_inside points steps made within inc (exit_number t) near only (PassesAt made.points.items (is_definition_of v.local)) one.pair.0 one.pair.1 path

    defines : slice_get points one.pair.0 ≡ point v.row (kind.Definition v.local)
    defines = old_get points made.points.items steps (steps_of made) inc one.pair.0 inside ∙ had.defines

    at_exit : one.pair.0 ≡ exit_number t → ⊥
    at_exit same = never_exit method v.row v.local t (slice_get points one.pair.0) (kind.Definition v.local) (ap (λ n. is_exit_at method t (slice_get points n)) same ∙ exits t) defines refl

    way : (one.pair.0 ≡ exit_number t) ⊎ StepPath steps (PassesAt points (is_definition_of v.local)) one.pair.0 (exit_number t)
    way = last_step points steps made within inc (exit_number t) near only (is_definition_of v.local) one.pair.0 one.pair.1 (not_before one.pair.1 (length points) had.such) path

-- ---- copies that are used

pub pairs_out : (origin : ℕ → Option ℕ) (all : List ℕ) (old copy : ℕ) → Contains (pairs_by origin all) (old, copy) → origin copy ≡ Some old
pairs_out origin [] old copy c = absurd (omega (arith, c.1))
pairs_out origin (d ∷ all) old copy c = ⊎_elim (by (origin d) refl) (λ more. pairs_out origin all old copy more) (Contains-append_cases (pair_of (origin d) (Some d)) (pairs_by origin all) (old, copy) c)
  where
    by : (o : Option ℕ) → origin d ≡ o → Contains (pair_of o (Some d)) (old, copy) → origin copy ≡ Some old
    by None e h = absurd (omega (arith, h.1))
    by (Some n) e h = ⊎_elim
        (λ same. let first : n ≡ old = ap (λ (x : ℕ × ℕ). x.0) same in let second : d ≡ copy = ap (λ (x : ℕ × ℕ). x.1) same in subst (λ m. origin m ≡ Some old) second (e ∙ ap Some first))
        (λ more. absurd (omega (arith, more.1))) (contains_out (n, d) [] (old, copy) h)

-- ---- the hub

-- a use is reached from an exit, or the exit is that
record IsPast (points : List Point) (steps : StepList) (method : ℕ) (t : Bool) (test : Point → Bool) (x : ℕ) : Type 0 where
  exit : ℕ
  exits : is_exit_at method t (slice_get points exit) ≡ true
  way : (x ≡ exit) ⊎ StepPath steps (PassesAt points test) exit x

module _ (graph mid made : code.Graph) (method : ℕ) (t : Bool) (P : ℕ → ℕ → Type 0) (within : AreWithin (length graph.points.items) (steps_of graph)) (first : Grows graph mid) (hub : HasHub graph.points.items mid method t (length graph.points.items))
    (hub_only : OnlyHub graph mid method t) (second : Grows mid made) (defs : OnlyDefines mid made (length graph.points.items) P) where
  abbrev points : List Point
  points = graph.points.items

  abbrev count : ℕ
  count = length graph.points.items

  -- one of the steps
  data IsStep (i j : ℕ) (u : Bool) : Type 0 where
    early : Contains (steps_of graph) (i, j, u) → IsStep i j u
    leads : i ≡ count → is_exit_at method t (slice_get points j) ≡ true → IsStep i j u
    begins : IsDefinedTo made (length mid.points.items) count P i j → IsStep i j u

  step_cases : (i j : ℕ) (u : Bool) → Contains (steps_of made) (i, j, u) → IsStep i j u
  step_cases i j u c = ⊎_elim (λ old. ⊎_elim (λ h. IsStep.early h) (λ o. IsStep.leads o.0 o.1) (hub_only i j u old)) (λ d. IsStep.begins d) (defs i j u c)

  hub_inside : count < length mid.points.items
  hub_inside = get_inside mid.points.items count (record { row = method; kind = kind.Node }) hub.stands

  hub_stands : slice_get made.points.items count ≡ point method kind.Node
  hub_stands = second.kept count (record { row = method; kind = kind.Node }) hub.stands

  kept_get : (k : ℕ) → k < count → slice_get points k ≡ slice_get made.points.items k
  kept_get k lt = let x = got points k lt in x.1 ∙ sym (second.kept k x.0 (first.kept k x.0 x.1))

  exit_inside : (k : ℕ) → is_exit_at method t (slice_get points k) ≡ true → k < count
  exit_inside k e = let x = exit_point method t (slice_get points k) e in get_inside points k x.0 x.1

  path_inside : (S : ℕ → Type 0) (i j : ℕ) → StepPath (steps_of graph) S i j → j < count
  path_inside S i j (StepPath.step u c) = (within i j u c).1
  path_inside S i j (StepPath.on {k = k} u path apart c) = (within k j u c).1

  module _ (test : Point → Bool) where
    abbrev Past : ℕ → Type 0
    Past x = IsPast points (steps_of graph) method t test x

    past_inside : (x : ℕ) → Past x → x < count
    past_inside x o = ⊎_elim (λ same. subst (λ n. n < count) (sym same) (exit_inside o.exit o.exits)) (λ path. path_inside (PassesAt points test) o.exit x path) o.way

    from_hub : (m x : ℕ) (u : Bool) → m ≡ count → IsStep m x u → Past x
    from_hub m x u at (IsStep.early c) = let lt = (within m x u c).0 in absurd (omega (arith, lt, at))
    from_hub m x u at (IsStep.leads is exits) = record { exit = x; exits = exits; way = inl refl }
    from_hub m x u at (IsStep.begins d) = let late = d.late in let less = hub_inside in absurd (omega (arith, late, at, less))

    from_past : (m x : ℕ) (u : Bool) → Past m → (PassesAt made.points.items test m → ⊥) → IsStep m x u → Past x
    from_past m x u o apart (IsStep.leads is exits) = let lt = past_inside m o in absurd (omega (arith, lt, is))
    from_past m x u o apart (IsStep.begins d) = let lt = past_inside m o in let late = d.late in let less = hub_inside in absurd (omega (arith, late, lt, less))
    from_past m x u o apart (IsStep.early c) = record {
      exit = o.exit;
      exits = o.exits;
      way = inr (⊎_elim (λ same. StepPath.step u (subst (λ n. Contains (steps_of graph) (n, x, u)) same c))
          (λ path. StepPath.on u path (λ s. apart (record { point = s.point; stands = second.kept m s.point (first.kept m s.point s.stands); passes = s.passes })) c) o.way);
    }

    begun : (a x : ℕ) (u : Bool) → length mid.points.items ≤ a → IsStep a x u → x ≡ count
    begun a x u late (IsStep.early c) = let lt = (within a x u c).0 in let less = hub_inside in absurd (omega (arith, lt, late, less))
    begun a x u late (IsStep.leads is exits) = let less = hub_inside in absurd (omega (arith, is, late, less))
    begun a x u late (IsStep.begins d) = d.ends

    behind : (a x : ℕ) → length mid.points.items ≤ a → StepPath (steps_of made) (PassesAt made.points.items test) a x → (x ≡ count) ⊎ Past x
    behind a x late (StepPath.step u c) = inl (begun a x u late (step_cases a x u c))
    behind a x late (StepPath.on {k = m} u path apart c) = inr (⊎_elim (λ at. from_hub m x u at (step_cases m x u c)) (λ past. from_past m x u past apart (step_cases m x u c)) (behind a m late path))

  -- what begins a path from a definition behind the first points
  first_step : (S : ℕ → Type 0) (a x : ℕ) → StepPath (steps_of made) S a x → (j : ℕ) × (u : Bool) × IsStep a j u
  first_step S a x (StepPath.step u c) = (x, u, step_cases a x u c)
  first_step S a x (StepPath.on {k = m} u path apart c) = first_step S a m path

  defined_at : (a j row local : ℕ) (u : Bool) → count ≤ a → slice_get made.points.items a ≡ point row (kind.Definition local) → IsStep a j u → IsDefinedTo made (length mid.points.items) count P a j
  defined_at a j row local u le at (IsStep.early c) = let lt = (within a j u c).0 in absurd (omega (arith, lt, le))
  defined_at a j row local u le at (IsStep.leads is exits) = absurd (no_node (slice_get made.points.items count) method row local (kind.Definition local) hub_stands (subst (λ n. slice_get made.points.items n ≡ point row (kind.Definition local)) is at) refl)
  defined_at a j row local u le at (IsStep.begins d) = d

  module _ (pairs : List (ℕ × ℕ)) (reaching : AreReaching made.points.items (steps_of made) pairs) (origin : ℕ → Option ℕ) (values : List Value)
      (linked : (r l : ℕ) → P r l → (v : Value) × Contains values v × IsOtherCopy origin v.local l) (none : NoneBehind points (steps_of graph) method t origin values) where
    not_late : (a b : ℕ) → Contains pairs (a, b) → count ≤ a → ⊥
    not_late a b c le = none link.0 d.local link.1 link.2 (⊎_elim (λ at. absurd (at_hub at)) used (behind (is_definition_of d.local) a b d.late path))
      where
        local : ℕ
        local = (reaching.only a b c).local

        start : (j : ℕ) × (u : Bool) × IsStep a j u
        start = let r = reaching.only a b c in first_step (PassesAt made.points.items (is_definition_of r.local)) a b r.path

        d : IsDefinedTo made (length mid.points.items) count P a start.0
        d = let r = reaching.only a b c in defined_at a start.0 r.from r.local start.1 le r.defines start.2

        same : local ≡ d.local
        same = let r = reaching.only a b c in same_local (slice_get made.points.items a) r.from d.row r.local d.local r.defines d.defines

        path : StepPath (steps_of made) (PassesAt made.points.items (is_definition_of d.local)) a b
        path = subst (λ n. StepPath (steps_of made) (PassesAt made.points.items (is_definition_of n)) a b) same (reaching.only a b c).path

        uses : slice_get made.points.items b ≡ point (reaching.only a b c).to (kind.Use d.local)
        uses = (reaching.only a b c).uses ∙ ap (λ n. point (reaching.only a b c).to (kind.Use n)) same

        link : (v : Value) × Contains values v × IsOtherCopy origin v.local d.local
        link = linked d.row d.local d.is

        at_hub : b ≡ count → ⊥
        at_hub at = no_node (slice_get made.points.items count) method (reaching.only a b c).to d.local (kind.Use d.local) hub_stands (ap (slice_get made.points.items) (sym at) ∙ uses) refl

        used : IsPast points (steps_of graph) method t (is_definition_of d.local) b → IsUsedBehind points (steps_of graph) method t d.local
        used o = let lt = past_inside (is_definition_of d.local) b o in let stands = kept_get b lt ∙ uses in record {
          from = o.exit;
          to = b;
          row = (reaching.only a b c).to;
          exits = o.exits;
          uses = stands;
          path = ⊎_elim (λ at. absurd (never_exit method (reaching.only a b c).to d.local t (slice_get points b) (kind.Use d.local) (ap (λ n. is_exit_at method t (slice_get points n)) at ∙ o.exits) stands refl)) (λ path. path) o.way;
        }

    pub all_early : (x : ℕ × ℕ) → Contains pairs x → x.0 < count
    all_early x c = ⊎_elim (λ lt. lt) (λ le. absurd (not_late x.0 x.1 c le)) (cases_lt x.0 count)

pub linked_copy : (values : List Value) (copies : ℕ → List ℕ) (origin : ℕ → Option ℕ) → OnlyCopies origin copies → (r l : ℕ) → IsCopyOfOne values copies origin r l → (v : Value) × Contains values v × IsOtherCopy origin v.local l
linked_copy values copies origin only r l o = (o.value, o.member, record { old = o.copy.old; copies = (o.copy.is, only o.copy.old l o.copy.other.among); apart = o.copy.other.apart })

pub none_left : (inner whole : code.Graph) (handing : Handing) (origin : ℕ → Option ℕ) (t : Bool) (values : List Value) → OnlyLeaving inner.points.items (steps_of inner) handing (exit_number t) values → IsUnlostBy inner whole handing origin t
    → NoneBehind whole.points.items (steps_of whole) inner.body t origin values
none_left inner whole handing origin t values only unlost v copy c other used = let leaves = only v c in unlost v.local v.row copy leaves.0 leaves.1 other used

-- ---- what is told

pub late_told : (all more : List (ℕ × ℕ)) (x : ℕ × ℕ) (count : ℕ) (is_early : Bool) (a b c : Firsts) → more ≡ all ++ x ∷ [] → is_early ≡ nat_lt x.0 count → Tells a b ((y : ℕ × ℕ) → Contains all y → y.0 < count)
    → Tells b c (is_early ≡ true) → Tells a c ((y : ℕ × ℕ) → Contains more y → y.0 < count)
late_told all more x count is_early a b c e is first second =
    tells_like a c (((y : ℕ × ℕ) → Contains all y → y.0 < count) × (is_early ≡ true)) ((y : ℕ × ℕ) → Contains more y → y.0 < count)
    (λ both y m. ⊎_elim (λ old. both.0 y old) (λ same. subst (λ (z : ℕ × ℕ). z.0 < count) same ((Decides-ltb x.0 count).0 (sym is ∙ both.1))) (Contains-push_cases all x y (subst (λ xs. Contains xs y) e m)))
    (λ h. (λ y m. h y (subst (λ xs. Contains xs y) (sym e) (Contains-append_left all (x ∷ []) y m)), is ∙ (Decides-ltb x.0 count).1 (h x (subst (λ xs. Contains xs x) (sym e) (Contains-push all x)))))
    (tells_both a b c ((y : ℕ × ℕ) → Contains all y → y.0 < count) (is_early ≡ true) first second)
