-- Values that locals of a method have where it is left, by graphs with more points and steps.
use Rattle.std.proofs.Common.{◌≡◌, ⊎_elim, refl, sym, ◌∙◌, ap, subst, arith, ℕ, ◌+◌, ◌<◌, ◌≤◌, Bool, true, false, not, ◌&&◌, List, [], ◌∷◌, ◌++◌, length, map, Option, Some, None, is_some, nat_eq, nat_lt, slice_get}
use Rattle.std.specs.List.{Contains}
use Rattle.std.proofs.lemmas.Bool.{false≢true, cases_lt}
use Rattle.std.proofs.lemmas.Option.{same_Some}
use Rattle.std.proofs.lemmas.List.{map-append, length-append}
use Rattle.std.proofs.lemmas.List.Elements.{Contains-append_left, Contains-append_right, Contains-push}
use Rattle.jr_flow_defs.specs.declared.point.Point.{Point}
use Rattle.jr_flow_defs.specs.declared.point.PointKind.{PointKind}
use Rattle.jr_flow_defs.specs.declared.point.PointKind.TheVariants as kind
use Rattle.jr_flow_defs.specs.Edges.{point}
use Rattle.jr_flow_defs.specs.Graphs.{StepList, StepPath, PassesAt, is_definition_of}
use Rattle.jr_flow_defs.specs.Computed.{is_definition}
use Rattle.jr_flow_defs.proofs.Searched.{contains_out, contains_first}
use Rattle.jr_flow.specs.declared.point.Graph as code
use Rattle.jr_flow.specs.declared.point.Step as code_step
use Rattle.jr_flow.specs.Reached.{step_seen, steps_of, AreReaching}
use Rattle.jr_flow.proofs.Gets.{front_get, get_last, got}
use Rattle.jr_kept.specs.declared.carried.Value.{Value}
use Rattle.jr_kept.specs.declared.handing.Handing.{Handing}
use Rattle.jr_kept.specs.Gathered.{use_in, pair_of, AddsRow}
use Rattle.jr_kept.specs.Searched.{AreWithin}
use Rattle.jr_kept.specs.Spliced.{exit_number}
use Rattle.jr_kept.specs.Carried.{local_if, HasLocals, is_exit_kind, is_exit_at, Includes, Grows, IsUsedAfter, IsDefinedBefore, value_if, value_at, item_of, values_by, AreLeaving, pairs_by, AreCopies, HasHub, HasExits, NoneBehind, AreDefined, IsUnlostBy, IsUnlost}
use Rattle.jr_kept.proofs.Naming.{get_inside}

-- ---- locals

pub has_locals_more : (points : List Point) (is_definition : Bool) (n : ℕ) (old new : List ℕ) (one : Option ℕ) → one ≡ local_if is_definition (slice_get points n) → AddsRow old new one
    → HasLocals points is_definition n old → HasLocals points is_definition (n + 1) new
has_locals_more points is_definition n old new one is adds h k d lt e = ⊎_elim (λ early. adds.kept d (h k d early e))
    (λ past. let same : n ≡ k = omega (arith, lt, past) in adds.here d (is ∙ ap (λ m. local_if is_definition (slice_get points m)) same ∙ e)) (cases_lt k n)

-- ---- graphs with more points and steps

pub includes_same : (points : List Point) (steps : StepList) → Includes points steps points steps
includes_same points steps = record { few = omega arith; kept = λ k x e. e; steps_kept = λ i j t c. c }

pub includes_both : (a b c : List Point) (s t u : StepList) → Includes a s b t → Includes b t c u → Includes a s c u
includes_both a b c s t u first second = record {
  few = let x = first.few in let y = second.few in omega (arith, x, y);
  kept = λ k x e. second.kept k x (first.kept k x e);
  steps_kept = λ i j thrown h. second.steps_kept i j thrown (first.steps_kept i j thrown h);
}

pub grows_same : (graph : code.Graph) → Grows graph graph
grows_same graph = includes_same graph.points.items (steps_of graph)

pub grows_both : (a b c : code.Graph) → Grows a b → Grows b c → Grows a c
grows_both a b c first second = includes_both a.points.items b.points.items c.points.items (steps_of a) (steps_of b) (steps_of c) first second

includes_push : (points more : List Point) (x : Point) (s t : StepList) → more ≡ points ++ x ∷ [] → ((i j : ℕ) (thrown : Bool) → Contains s (i, j, thrown) → Contains t (i, j, thrown)) → Includes points s more t
includes_push points more x s t e kept = record {
  few = let size = ap length e ∙ length-append points (x ∷ []) in omega (arith, size);
  kept = λ k y at. ap (λ xs. slice_get xs k) e ∙ front_get points (x ∷ []) k (get_inside points k y at) ∙ at;
  steps_kept = kept;
}

pub seen_more : (steps more : List code_step.Step) (s : code_step.Step) → more ≡ steps ++ s ∷ [] → map step_seen more ≡ map step_seen steps ++ step_seen s ∷ []
seen_more steps more s e = ap (map step_seen) e ∙ map-append step_seen steps (s ∷ [])

pub steps_still : (steps more : List code_step.Step) (s : code_step.Step) → more ≡ steps ++ s ∷ [] → (i j : ℕ) (t : Bool) → Contains (map step_seen steps) (i, j, t) → Contains (map step_seen more) (i, j, t)
steps_still steps more s e i j t c = subst (λ xs. Contains xs (i, j, t)) (sym (seen_more steps more s e)) (Contains-append_left (map step_seen steps) (step_seen s ∷ []) (i, j, t) c)

pub step_now : (steps more : List code_step.Step) (s : code_step.Step) → more ≡ steps ++ s ∷ [] → Contains (map step_seen more) (step_seen s)
step_now steps more s e = subst (λ xs. Contains xs (step_seen s)) (sym (seen_more steps more s e)) (Contains-push (map step_seen steps) (step_seen s))

-- the point behind the others
pub point_now : (points more : List Point) (x : Point) (n : ℕ) → more ≡ points ++ x ∷ [] → n ≡ length points → slice_get more n ≡ Some x
point_now points more x n e is = ap (λ xs. slice_get xs n) e ∙ ap (slice_get (points ++ x ∷ [])) is ∙ get_last points x

pub used_after : (old new : code.Graph) (from to local : ℕ) → new.points.items ≡ old.points.items ++ record { row = 0; kind = kind.Use local } ∷ []
    → new.steps.items ≡ old.steps.items ++ record { from = from; to = to; is_throw = false } ∷ [] → to ≡ length old.points.items
    → Grows old new × IsUsedAfter new (length old.points.items) from local
used_after old new from to local e f is = let s : code_step.Step = record { from = from; to = to; is_throw = false } in let x : Point = record { row = 0; kind = kind.Use local } in (
  includes_push old.points.items new.points.items x (steps_of old) (steps_of new) e (steps_still old.steps.items new.steps.items s f),
  record { number = to; late = omega (arith, is); uses = point_now old.points.items new.points.items x to e is; step = step_now old.steps.items new.steps.items s f },
)

pub defined_before : (old new : code.Graph) (from to row local : ℕ) → new.points.items ≡ old.points.items ++ record { row = row; kind = kind.Definition local } ∷ []
    → new.steps.items ≡ old.steps.items ++ record { from = from; to = to; is_throw = false } ∷ [] → from ≡ length old.points.items
    → Grows old new × IsDefinedBefore new (length old.points.items) to row local
defined_before old new from to row local e f is = let s : code_step.Step = record { from = from; to = to; is_throw = false } in let x : Point = record { row = row; kind = kind.Definition local } in (
  includes_push old.points.items new.points.items x (steps_of old) (steps_of new) e (steps_still old.steps.items new.steps.items s f),
  record { number = from; late = omega (arith, is); defines = point_now old.points.items new.points.items x from e is; step = step_now old.steps.items new.steps.items s f },
)

pub used_still : (old new : code.Graph) (count less from local : ℕ) → Grows old new → less ≤ count → IsUsedAfter old count from local → IsUsedAfter new less from local
used_still old new count less from local grows le u = let late = u.late in
    record { number = u.number; late = omega (arith, le, late); uses = grows.kept u.number (record { row = 0; kind = kind.Use local }) u.uses; step = grows.steps_kept from u.number false u.step }

pub defined_still : (old new : code.Graph) (count less to row local : ℕ) → Grows old new → less ≤ count → IsDefinedBefore old count to row local → IsDefinedBefore new less to row local
defined_still old new count less to row local grows le d = let late = d.late in
    record { number = d.number; late = omega (arith, le, late); defines = grows.kept d.number (record { row = row; kind = kind.Definition local }) d.defines; step = grows.steps_kept d.number to false d.step }

-- ---- paths

passes_back : (points more : List Point) (steps others : StepList) → Includes points steps more others → (test : Point → Bool) (k : ℕ) → k < length points → PassesAt more test k → PassesAt points test k
passes_back points more steps others inc test k lt s = let x = got points k lt in
    record { point = x.0; stands = x.1; passes = subst (λ z. test z ≡ true) (same_Some s.point x.0 (sym s.stands ∙ inc.kept k x.0 x.1)) s.passes }

pub path_more : (points more : List Point) (steps others : StepList) → AreWithin (length points) steps → Includes points steps more others → (test : Point → Bool) (i j : ℕ)
    → StepPath steps (PassesAt points test) i j → StepPath others (PassesAt more test) i j
path_more points more steps others within inc test i j (StepPath.step t c) = StepPath.step t (inc.steps_kept i j t c)
path_more points more steps others within inc test i j (StepPath.on {k = k} t path apart c) =
    StepPath.on t (path_more points more steps others within inc test i k path) (λ s. apart (passes_back points more steps others inc test k (within k j t c).0 s)) (inc.steps_kept k j t c)

path_on : (steps : StepList) (S : ℕ → Type 0) (a b c : ℕ) → StepPath steps S a b → (S b → ⊥) → StepPath steps S b c → StepPath steps S a c
path_on steps S a b c first apart (StepPath.step t h) = StepPath.on t first apart h
path_on steps S a b c first apart (StepPath.on {k = k} t path free h) = StepPath.on t (path_on steps S a b k first apart path) free h

pub stops_never : (points : List Point) (k d : ℕ) (x : Point) → slice_get points k ≡ Some x → is_definition_of d x ≡ false → PassesAt points (is_definition_of d) k → ⊥
stops_never points k d x e out s = false≢true (sym out ∙ subst (λ z. is_definition_of d z ≡ true) (same_Some s.point x (sym s.stands ∙ e)) s.passes)

and_first : (b c : Bool) → (b && c) ≡ true → b ≡ true
and_first true c e = refl
and_first false c e = absurd (false≢true e)

pub and_last : (b c : Bool) → (b && c) ≡ true → c ≡ true
and_last true c e = e
and_last false c e = absurd (false≢true e)

-- an exit is no definition
pub exit_point : (method : ℕ) (t : Bool) (o : Option Point) → is_exit_at method t o ≡ true → (x : Point) × (o ≡ Some x) × ((d : ℕ) → is_definition_of d x ≡ false)
exit_point method t None e = absurd (false≢true e)
exit_point method t (Some x) e = (x, refl, by x.kind (and_last (nat_eq x.row method) _ e))
  where
    by : (k : PointKind) → is_exit_kind t k ≡ true → (d : ℕ) → is_definition d k ≡ false
    by kind.Entry f d = refl
    by kind.Exit f d = refl
    by kind.Thrown f d = refl
    by kind.Node f d = refl
    by (kind.Use e) f d = refl
    by (kind.Definition e) f d = absurd (false≢true f)

exit_passes : (points more : List Point) (steps others : StepList) (method k d : ℕ) (t : Bool) → Includes points steps more others → is_exit_at method t (slice_get points k) ≡ true → PassesAt more (is_definition_of d) k → ⊥
exit_passes points more steps others method k d t inc e s = let x = exit_point method t (slice_get points k) e in stops_never more k d x.0 (inc.kept k x.0 x.1) (x.2 d) s

-- ---- values that leave the method

pub values_in : (points : List Point) (handing : Handing) (count : ℕ) (pairs : List (ℕ × ℕ)) (x : ℕ × ℕ) (v : Value) → Contains pairs x
    → value_at handing (slice_get points x.0) (not (nat_lt x.1 count)) ≡ Some v → Contains (values_by points handing count pairs) v
values_in points handing count [] x v c e = absurd (omega (arith, c.1))
values_in points handing count (y ∷ pairs) x v c e = ⊎_elim
    (λ same. Contains-append_left (item_of (value_at handing (slice_get points y.0) (not (nat_lt y.1 count)))) (values_by points handing count pairs) v
    (subst (λ o. Contains (item_of o) v) (sym (ap (λ z. value_at handing (slice_get points z.0) (not (nat_lt z.1 count))) same ∙ e)) (contains_first v [])))
    (λ more. Contains-append_right (item_of (value_at handing (slice_get points y.0) (not (nat_lt y.1 count)))) (values_by points handing count pairs) v (values_in points handing count pairs x v more e))
    (contains_out y pairs x c)

not_less : (j count : ℕ) → count ≤ j → nat_lt j count ≡ false
not_less j count le = grind arith

value_here : (handing : Handing) (o : Option Point) (row d j count : ℕ) → o ≡ point row (kind.Definition d) → use_in handing row ≡ None → count ≤ j → value_at handing o (not (nat_lt j count)) ≡ Some (record { row = row; local = d })
value_here handing o row d j count e own le = ap (λ z. value_at handing z (not (nat_lt j count))) e
    ∙ ap (λ (z : Option ℕ). value_if row d (not (is_some z) && not (nat_lt j count))) own ∙ ap (λ (b : Bool). value_if row d (not b)) (not_less j count le)

pub are_leaving : (points : List Point) (steps : StepList) (made : code.Graph) (handing : Handing) (method : ℕ) (t : Bool) (locals : List ℕ) (pairs : List (ℕ × ℕ)) → AreWithin (length points) steps → HasExits points method
    → Includes points steps made.points.items (steps_of made) → HasLocals points true (length points) locals
    → ((d : ℕ) → Contains locals d → IsUsedAfter made (length points) (exit_number t) d) → AreReaching made.points.items (steps_of made) pairs
    → AreLeaving points steps handing (exit_number t) (values_by made.points.items handing (length points) pairs)
are_leaving points steps made handing method t locals pairs within exits inc has used reaching d row l own =
    let u = used d (has l.from d (get_inside points l.from _ l.defines) (ap (local_if true) l.defines)) in
    let defines = inc.kept l.from _ l.defines in
    let pair = reaching.every l.from u.number (record {
      local = d;
      from = row;
      to = 0;
      defines = defines;
      uses = u.uses;
      path = StepPath.on false (path_more points made.points.items steps (steps_of made) within inc (is_definition_of d) l.from (exit_number t) l.path)
          (exit_passes points made.points.items steps (steps_of made) method (exit_number t) d t inc (exits t)) u.step;
    }) in
    values_in made.points.items handing (length points) pairs (l.from, u.number) (record { row = row; local = d }) pair
    (value_here handing (slice_get made.points.items l.from) row d u.number (length points) defines own u.late)

-- ---- copies that are used

pub pairs_in : (origin : ℕ → Option ℕ) (all : List ℕ) (d old : ℕ) → Contains all d → origin d ≡ Some old → Contains (pairs_by origin all) (old, d)
pairs_in origin [] d old c e = absurd (omega (arith, c.1))
pairs_in origin (x ∷ all) d old c e = ⊎_elim
    (λ same. Contains-append_left (pair_of (origin x) (Some x)) (pairs_by origin all) (old, d)
    (subst (λ z. Contains (pair_of (origin z) (Some z)) (old, d)) (sym same) (subst (λ o. Contains (pair_of o (Some d)) (old, d)) (sym e) (contains_first (old, d) []))))
    (λ more. Contains-append_right (pair_of (origin x) (Some x)) (pairs_by origin all) (old, d) (pairs_in origin all d old more e))
    (contains_out x all d c)

pub are_copies : (points : List Point) (origin : ℕ → Option ℕ) (locals : List ℕ) (copies : ℕ → List ℕ) → HasLocals points false (length points) locals
    → ((k j : ℕ) → Contains (pairs_by origin locals) (k, j) → Contains (copies k) j) → AreCopies points origin copies
are_copies points origin locals copies has under k row copy old e is = under old copy (pairs_in origin locals copy old (has k copy (get_inside points k _ e) (ap (local_if false) e)) is)

-- ---- the hub

pub hub_grows : (graph mid made : code.Graph) (method : ℕ) → mid.points.items ≡ graph.points.items ++ record { row = method; kind = kind.Node } ∷ [] → made.points.items ≡ mid.points.items
    → ((i j : ℕ) (t : Bool) → Contains (steps_of graph) (i, j, t) → Contains (steps_of made) (i, j, t)) → Grows graph made
hub_grows graph mid made method e f kept = includes_push graph.points.items made.points.items (record { row = method; kind = kind.Node }) (steps_of graph) (steps_of made) (f ∙ e) kept

pub hub_made : (points : List Point) (mid made : code.Graph) (method hub : ℕ) (t : Bool) → mid.points.items ≡ points ++ record { row = method; kind = kind.Node } ∷ [] → made.points.items ≡ mid.points.items → hub ≡ length points
    → ((k : ℕ) → k < length points → is_exit_at method t (slice_get points k) ≡ true → Contains (steps_of made) (hub, k, false)) → HasHub points made method t (length points)
hub_made points mid made method hub t e f is steps = record {
  stands = point_now points made.points.items (record { row = method; kind = kind.Node }) (length points) (f ∙ e) refl;
  before = λ k exits. let x = exit_point method t (slice_get points k) exits in subst (λ h. Contains (steps_of made) (h, k, false)) is (steps k (get_inside points k x.0 x.1) exits);
}

pub none_behind : (points : List Point) (steps : StepList) (mid made : code.Graph) (method : ℕ) (t : Bool) (origin : ℕ → Option ℕ) (values : List Value) (copies : ℕ → List ℕ) (pairs : List (ℕ × ℕ)) → AreWithin (length points) steps
    → Includes points steps mid.points.items (steps_of mid) → HasHub points mid method t (length points) → Grows mid made → AreDefined made (length mid.points.items) (length points) values copies origin
    → AreCopies points origin copies → AreReaching made.points.items (steps_of made) pairs → ((x : ℕ × ℕ) → Contains pairs x → x.0 < length points) → NoneBehind points steps method t origin values
none_behind points steps mid made method t origin values copies pairs within first hub second defined are reaching early v copy c other used =
    let inc = includes_both points mid.points.items made.points.items steps (steps_of mid) (steps_of made) first second in
    let d = defined v c copy other.old other.copies.0 (are used.to used.row copy other.old used.uses other.copies.1) other.apart in
    let begins = StepPath.on false (StepPath.step false d.step)
    (stops_never made.points.items (length points) copy (record { row = method; kind = kind.Node }) (second.kept (length points) _ hub.stands) refl)
    (second.steps_kept (length points) used.from false (hub.before used.from used.exits)) in
    let lt = early (d.number, used.to) (reaching.every d.number used.to (record {
      local = copy;
      from = v.row;
      to = used.row;
      defines = d.defines;
      uses = inc.kept used.to _ used.uses;
      path = path_on (steps_of made) (PassesAt made.points.items (is_definition_of copy)) d.number used.from used.to begins
          (exit_passes points made.points.items steps (steps_of made) method used.from copy t inc used.exits)
          (path_more points made.points.items steps (steps_of made) within inc (is_definition_of copy) used.from used.to used.path);
    })) in
    let late = d.late in let more = first.few in absurd (omega (arith, lt, late, more))

pub unlost_by : (inner whole : code.Graph) (handing : Handing) (origin : ℕ → Option ℕ) (t : Bool) (values : List Value) → AreLeaving inner.points.items (steps_of inner) handing (exit_number t) values
    → NoneBehind whole.points.items (steps_of whole) inner.body t origin values → IsUnlostBy inner whole handing origin t
unlost_by inner whole handing origin t values leaving none d row copy l own other used = none (record { row = row; local = d }) copy (leaving d row l own) other used

pub unlost_both : (inner whole : code.Graph) (handing : Handing) (origin : ℕ → Option ℕ) → IsUnlostBy inner whole handing origin false → IsUnlostBy inner whole handing origin true → IsUnlost inner whole handing origin
unlost_both inner whole handing origin plain thrown false = plain
unlost_both inner whole handing origin plain thrown true = thrown
