-- Ways out of a row that has completed.
use Rattle.std.proofs.Common.{◌≡◌, ◌⊎◌, refl, sym, ◌∙◌, ap, ap₂, subst, ⊎_elim, arith, ℕ, zero, suc, ◌+◌, ◌-◌, ◌<◌, ◌≤◌, Bool, true, false, ◌&&◌, if◌then◌else◌, List, [], ◌∷◌, ◌++◌, length, map, filter, append_assoc, append-nil, Option, Some, None, nat_eq, unwrap_or, slice_get, ◌^◌}
use Rattle.std.proofs.lemmas.List.{map-append}
use Rattle.std.proofs.lemmas.Bool.{false≢true, cases_lt}
use Rattle.std.proofs.lemmas.Bool.Decides.{Decides-eqb}
use Rattle.jr_tree.specs.declared.label.Label.{Label}
use Rattle.jr_tree.specs.declared.label.Label.TheVariants as is
use Rattle.jr_tree.specs.Rows.{Rows, label, parent, end}
use Rattle.jr_flow_defs.specs.Meaning.{Meaning}
use Rattle.jr_flow_defs.specs.Acts as acts
use Rattle.jr_flow_defs.specs.Acts.{normally, by_break, by_continue, by_return, by_throw, siblings, is_catch, last}
use Rattle.jr_flow_defs.specs.States as states
use Rattle.jr_flow_defs.specs.declared.point.PointKind.TheVariants as kind
use Rattle.jr_flow_defs.specs.Edges.{point, point_by, act_point, exit_kind}
use Rattle.jr_flow_defs.specs.States.{State, Hop, at, left, plainly, is_throw, ending, as_left, catches, into_finally, body_left, finally_left, try_left, left_by, part_left, behind, act_hops, hops_by, hops}
use Rattle.jr_flow.specs.declared.acts.Completion.{Completion}
use Rattle.jr_flow.specs.declared.pending.Pending.{Pending}
use Rattle.jr_flow.specs.declared.pending.Waiting.{Waiting}
use Rattle.jr_flow.specs.declared.leaving.State as code_state
use Rattle.jr_flow.specs.declared.leaving.Moment.TheVariants as when
use Rattle.jr_flow.specs.declared.code.Code.{Code}
use Rattle.jr_flow.specs.Coded.{item, IsCodeOf, IsCoded}
use Rattle.jr_flow.specs.declared.leaving.Way.{Way}
use Rattle.jr_flow.specs.Seen.{completion_seen}
use Rattle.jr_flow.specs.Places.{entry, moment_seen, list_seen, state_seen, ways_seen}
use Rattle.jr_flow.specs.Pended.{lists_of, IsPending, Grows, HasList, AddsWays, IsState, ended, caught_by, caught, catch_ways, hops_before, reason}
use Rattle.jr_flow.proofs.Pended.{list_of_one, list_of_none}
use Rattle.jr_flow.proofs.Siblings.{next, past, none}

pub grows_none : (pending : Pending) → IsPending pending → Grows pending pending
grows_none pending h = record { more = []; grown = sym (append-nil (lists_of pending)); right = h }

pub adds_only : (pending : Pending) (before behind : List Way) (hops : List (Hop State)) → IsPending pending → ways_seen (lists_of pending) behind ≡ ways_seen (lists_of pending) before ++ hops → AddsWays pending pending before behind hops
adds_only pending before behind hops h e = record { grows = grows_none pending h; ways = e }

-- ---- into a block of `finally`

pub into_block : (old new : Pending) (p : Rows) (n block list k : ℕ) (c : Completion) (to : code_state.State) → HasList old new list c k → block ≡ last p n
    → state_seen (lists_of new) to ≡ at block 0 (list_seen (lists_of new) k) → IsState old new to (into_finally p n true (completion_seen c) (list_seen (lists_of new) list))
into_block old new p n block list k c to h block_is e = record {
  grows = h.grows;
  is = e ∙ ap₂ (λ b w. at b 0 w) block_is (list_of_one (lists_of new) k (record { completion = c; outer = list }) h.grows.right.rising h.stands);
}

pub out_of_try : (pending : Pending) (p : Rows) (n list : ℕ) (c : Completion) (to : code_state.State) → IsPending pending
    → state_seen (lists_of pending) to ≡ left n (completion_seen c) (list_seen (lists_of pending) list) → IsState pending pending to (into_finally p n false (completion_seen c) (list_seen (lists_of pending) list))
out_of_try pending p n list c to h e = record { grows = grows_none pending h; is = e }

pub go_ended : (old new : Pending) (before behind : List Way) (body : ℕ) (to stop : code_state.State) (place : State) → IsState old new to place → state_seen (lists_of new) stop ≡ ending body (state_seen (lists_of new) to)
    → ways_seen (lists_of new) behind ≡ ways_seen (lists_of new) before ++ plainly (state_seen (lists_of new) stop) ∷ [] → AddsWays old new before behind (ended body (place ∷ []))
go_ended old new before behind body to stop place h e ways = record {
  grows = h.grows;
  ways = ways ∙ ap (λ a. ways_seen (lists_of new) before ++ plainly a ∷ []) (e ∙ ap (ending body) h.is);
}

-- ---- catches

catch_by : (p : Rows) (w : states.Pending) (k : ℕ) (rest : List ℕ) (b : Bool) → b ≡ is_catch (label p k) → (if b then plainly (at k 0 w) ∷ [] else []) ++ catch_ways p w rest ≡ catch_ways p w (k ∷ rest)
catch_by p w k rest b e = ap (λ t. (if t then plainly (at k 0 w) ∷ [] else []) ++ catch_ways p w rest) e

pub catch_written : (p : Rows) (w : states.Pending) (old new all : List (Hop State)) (room turn k stop behind : ℕ) (b : Bool) (to : State) → turn < room → k < stop → behind ≡ end p k → b ≡ is_catch (label p k) → to ≡ at k 0 w
    → new ≡ old ++ (if b then plainly to ∷ [] else []) → old ++ catch_ways p w (siblings p (room - turn) k stop) ≡ all → new ++ catch_ways p w (siblings p (room - (turn + 1)) behind stop) ≡ all
catch_written p w old new all room turn k stop behind b to lt before ends test to_is e h = let rest = siblings p (room - (turn + 1)) (end p k) stop in
    rw ends (ap (λ xs. xs ++ catch_ways p w rest) e ∙ ap (λ a. (old ++ (if b then plainly a ∷ [] else [])) ++ catch_ways p w rest) to_is
    ∙ append_assoc old (if b then plainly (at k 0 w) ∷ [] else []) (catch_ways p w rest) ∙ ap (λ xs. old ++ xs) (catch_by p w k rest b test)
    ∙ ap (λ xs. old ++ catch_ways p w xs) (sym (next p room turn k stop lt before)) ∙ h)

pub catch_past : (p : Rows) (w : states.Pending) (old all : List (Hop State)) (room k stop : ℕ) → stop ≤ k → old ++ catch_ways p w (siblings p room k stop) ≡ all → old ≡ all
catch_past p w old all room k stop le h = sym (append-nil old) ∙ ap (λ xs. old ++ catch_ways p w xs) (sym (past p room k stop le)) ∙ h

pub catch_none : (p : Rows) (w : states.Pending) (old all : List (Hop State)) (room turn k stop : ℕ) → room ≤ turn → old ++ catch_ways p w (siblings p (room - turn) k stop) ≡ all → old ≡ all
catch_none p w old all room turn k stop le h = sym (append-nil old) ∙ ap (λ xs. old ++ catch_ways p w xs) (sym (none p room turn k stop le)) ∙ h

pub catch_ways_are : (p : Rows) (w : states.Pending) (xs : List ℕ) → catch_ways p w xs ≡ map plainly (map (λ k. at k 0 w) (filter (λ k. is_catch (label p k)) xs))
catch_ways_are p w [] = refl
catch_ways_are p w (k ∷ rest) = by (is_catch (label p k)) refl (catch_ways_are p w rest)
  where
    by : (b : Bool) → is_catch (label p k) ≡ b → catch_ways p w rest ≡ map plainly (map (λ k. at k 0 w) (filter (λ k. is_catch (label p k)) rest))
        → catch_ways p w (k ∷ rest) ≡ map plainly (map (λ k. at k 0 w) (filter (λ k. is_catch (label p k)) (k ∷ rest)))
    by true e h = rw e (ap (λ xs. plainly (at k 0 w) ∷ xs) h)
    by false e h = rw e h

ending_at : (body k : ℕ) (w : states.Pending) → ending body (at k 0 w) ≡ at k 0 w
ending_at body k w = by (nat_eq k body)
  where
    by : (b : Bool) → (if b then at k 0 w else at k 0 w) ≡ at k 0 w
    by true = refl
    by false = refl

ended_at : (body : ℕ) (w : states.Pending) (ks : List ℕ) → ended body (map (λ k. at k 0 w) ks) ≡ map plainly (map (λ k. at k 0 w) ks)
ended_at body w [] = refl
ended_at body w (k ∷ ks) = ap₂ (λ a xs. plainly a ∷ xs) (ending_at body k w) (ended_at body w ks)

body_ways : (p : Rows) (body n : ℕ) (has_finally : Bool) (c : acts.Completion) (w : states.Pending) → map plainly (caught p n c w) ++ ended body (into_finally p n has_finally c w ∷ []) ≡ ended body (body_left p n has_finally c w)
body_ways p body n has_finally by_throw w = ap (λ xs. xs ++ ended body (into_finally p n has_finally by_throw w ∷ [])) (sym (ended_at body w (catches p n)))
    ∙ sym (map-append (λ a. plainly (ending body a)) (map (λ k. at k 0 w) (catches p n)) (into_finally p n has_finally by_throw w ∷ []))
body_ways p body n has_finally normally w = refl
body_ways p body n has_finally (by_break x) w = refl
body_ways p body n has_finally (by_continue x) w = refl
body_ways p body n has_finally by_return w = refl

pub adds_body : (old new : Pending) (before mid behind : List Way) (p : Rows) (body n : ℕ) (has_finally : Bool) (c : acts.Completion) (w : states.Pending)
    → ways_seen (lists_of new) mid ≡ ways_seen (lists_of new) before ++ map plainly (caught p n c w) → AddsWays old new mid behind (ended body (into_finally p n has_finally c w ∷ []))
    → AddsWays old new before behind (ended body (body_left p n has_finally c w))
adds_body old new before mid behind p body n has_finally c w e h = record {
  grows = h.grows;
  ways = h.ways ∙ ap (λ xs. xs ++ ended body (into_finally p n has_finally c w ∷ [])) e ∙ append_assoc (ways_seen (lists_of new) before) (map plainly (caught p n c w)) (ended body (into_finally p n has_finally c w ∷ []))
      ∙ ap (λ xs. ways_seen (lists_of new) before ++ xs) (body_ways p body n has_finally c w);
}

-- ---- a block of `finally` has completed

finally_is : (n : ℕ) (c x : acts.Completion) (w : states.Pending) → finally_left n c (x ∷ w) ≡ left n (reason c x) w ∷ []
finally_is n normally x w = refl
finally_is n (by_break y) x w = refl
finally_is n (by_continue y) x w = refl
finally_is n by_return x w = refl
finally_is n by_throw x w = refl

finally_none : (n : ℕ) (c : acts.Completion) → finally_left n c [] ≡ []
finally_none n normally = refl
finally_none n (by_break y) = refl
finally_none n (by_continue y) = refl
finally_none n by_return = refl
finally_none n by_throw = refl

pub block_left : (pending : Pending) (before behind : List Way) (body n list : ℕ) (c : acts.Completion) (x : Waiting) (to stop : code_state.State) → IsPending pending → entry (lists_of pending) list ≡ Some x
    → state_seen (lists_of pending) to ≡ left n (reason c (completion_seen x.completion)) (list_seen (lists_of pending) x.outer) → state_seen (lists_of pending) stop ≡ ending body (state_seen (lists_of pending) to)
    → ways_seen (lists_of pending) behind ≡ ways_seen (lists_of pending) before ++ plainly (state_seen (lists_of pending) stop) ∷ []
    → ways_seen (lists_of pending) behind ≡ ways_seen (lists_of pending) before ++ ended body (finally_left n c (list_seen (lists_of pending) list))
block_left pending before behind body n list c x to stop h at_list to_is stop_is ways = ways ∙ ap (λ a. ways_seen (lists_of pending) before ++ plainly a ∷ []) (stop_is ∙ ap (ending body) to_is)
    ∙ ap (λ places. ways_seen (lists_of pending) before ++ ended body places) (sym (ap (finally_left n c) (list_of_one (lists_of pending) list x h.rising at_list) ∙ finally_is n c (completion_seen x.completion) (list_seen (lists_of pending) x.outer)))

pub nothing_left : (pending : Pending) (out : List Way) (body n list : ℕ) (c : acts.Completion) → entry (lists_of pending) list ≡ None
    → ways_seen (lists_of pending) out ≡ ways_seen (lists_of pending) out ++ ended body (finally_left n c (list_seen (lists_of pending) list))
nothing_left pending out body n list c e = sym (append-nil (ways_seen (lists_of pending) out))
    ∙ ap (λ places. ways_seen (lists_of pending) out ++ ended body places) (sym (ap (finally_left n c) (list_of_none (lists_of pending) list e) ∙ finally_none n c))

-- ---- which part it is

try_if : (p : Rows) (n : ℕ) (has_finally : Bool) (k : ℕ) (c : acts.Completion) (w : states.Pending) (first block : Bool) → nat_eq k (n + 1) ≡ first → has_finally && nat_eq k (last p n) ≡ block
    → try_left p n has_finally k c w ≡ (if first then body_left p n has_finally c w else if block then finally_left n c w else into_finally p n has_finally c w ∷ [])
try_if p n has_finally k c w first block e f = ap₂ (λ a b. if a then body_left p n has_finally c w else if b then finally_left n c w else into_finally p n has_finally c w ∷ []) e f

pub first_left : (p : Rows) (n : ℕ) (has_finally : Bool) (k : ℕ) (c : acts.Completion) (w : states.Pending) → nat_eq k (n + 1) ≡ true → body_left p n has_finally c w ≡ try_left p n has_finally k c w
first_left p n has_finally k c w e = sym (try_if p n has_finally k c w true (has_finally && nat_eq k (last p n)) e refl)

pub last_left : (p : Rows) (n : ℕ) (has_finally : Bool) (k : ℕ) (c : acts.Completion) (w : states.Pending) → nat_eq k (n + 1) ≡ false → has_finally && nat_eq k (last p n) ≡ true → finally_left n c w ≡ try_left p n has_finally k c w
last_left p n has_finally k c w e f = sym (try_if p n has_finally k c w false true e f)

pub other_left : (p : Rows) (n : ℕ) (has_finally : Bool) (k : ℕ) (c : acts.Completion) (w : states.Pending) → nat_eq k (n + 1) ≡ false → has_finally && nat_eq k (last p n) ≡ false → into_finally p n has_finally c w ∷ [] ≡ try_left p n has_finally k c w
other_left p n has_finally k c w e f = sym (try_if p n has_finally k c w false false e f)

pub adds_same : (old new : Pending) (before behind : List Way) (body : ℕ) (places others : List State) → places ≡ others → AddsWays old new before behind (ended body places) → AddsWays old new before behind (ended body others)
adds_same old new before behind body places others e h = subst (λ xs. AddsWays old new before behind (ended body xs)) e h

-- ---- which row it is part of

pub try_part : (p : Rows) (m : Meaning) (l : Label) (n k : ℕ) (has_finally : Bool) (c : acts.Completion) (w : states.Pending) → l ≡ is.Try has_finally → try_left p n has_finally k c w ≡ left_by l p m n k c w
try_part p m l n k has_finally c w e = ap (λ x. left_by x p m n k c w) (sym e)

pub other_part : (p : Rows) (m : Meaning) (l : Label) (n k : ℕ) (c : acts.Completion) (w : states.Pending) → ((has_finally : Bool) → l ≡ is.Try has_finally → ⊥) → part_left (acts.acts p m n) l n k c w ∷ [] ≡ left_by l p m n k c w
other_part p m (is.Try has_finally) n k c w h = absurd (h has_finally refl)
other_part p m _ n k c w h = refl

-- where the row stands whose part has completed
pub record StandsOver (p : Rows) (m : Meaning) (code : Code) (k : ℕ) : Type 0 where
  pub inside : parent p k < length p
  pub near : parent p k + 1 < 2 ^ 32
  pub last_is : unwrap_or (item code.lasts.items code.body (parent p k)) (parent p k) ≡ last p (parent p k)
  pub behind_is : unwrap_or (item code.behinds.items code.body k) 0 ≡ behind (acts.acts p m (parent p k)) k

pub stands_over : (p : Rows) (m : Meaning) (code : Code) (k : ℕ) → IsCoded p m code → code.body < k → k < end p code.body → StandsOver p m code k
stands_over p m code k h lt inside = let le = h.tree.last code.body h.inside in let over = h.tree.inner code.body k lt inside in let up = h.tree.up k (omega (arith, inside, le)) (omega (arith, lt)) in
    let few = h.few in record {
      inside = omega (arith, up, inside, le);
      near = omega (arith, up, inside, le, few);
      last_is = ap (λ o. unwrap_or o (parent p k)) (h.table.lasts (parent p k) over (omega (arith, up, inside)));
      behind_is = ap (λ o. unwrap_or o 0) (h.table.behinds k lt inside);
    }

-- ---- from any state

pub before_hops : (p : Rows) (m : Meaning) (body : ℕ) (lists : List Waiting) (from : code_state.State) (act count : ℕ) (found : Option acts.Act) → from.moment ≡ when.Before act → found ≡ slice_get (acts.acts p m from.row) act → count ≡ length (acts.acts p m from.row)
    → act_hops found from.row act count (list_seen lists from.list) ≡ hops p m body (state_seen lists from)
before_hops p m body lists from act count found e f g = ap₂ (λ o k. act_hops o from.row act k (list_seen lists from.list)) f g ∙ ap (λ x. hops_by (moment_seen x) p m body from.row (list_seen lists from.list)) (sym e)

pub completed_hops : (p : Rows) (m : Meaning) (body : ℕ) (lists : List Waiting) (from : code_state.State) (c : Completion) → from.moment ≡ when.Completed c
    → hops_by (states.completed (completion_seen c)) p m body from.row (list_seen lists from.list) ≡ hops p m body (state_seen lists from)
completed_hops p m body lists from c e = ap (λ x. hops_by (moment_seen x) p m body from.row (list_seen lists from.list)) (sym e)

pub leaves_body : (p : Rows) (m : Meaning) (body n : ℕ) (c : acts.Completion) (w : states.Pending) (b : Bool) → nat_eq n body ≡ b
    → hops_by (states.completed c) p m body n w ≡ (if b then [] else ended body (left_by (label p (parent p n)) p m (parent p n) n c w))
leaves_body p m body n c w b e = ap (λ t. if t then [] else ended body (left_by (label p (parent p n)) p m (parent p n) n c w)) e

pub adds_equal : (old new : Pending) (before behind : List Way) (hops others : List (Hop State)) → hops ≡ others → AddsWays old new before behind hops → AddsWays old new before behind others
adds_equal old new before behind hops others e h = subst (λ xs. AddsWays old new before behind xs) e h

pub other_row : (n body : ℕ) → body ≤ n → nat_eq n body ≡ false → body < n
other_row n body le e = ⊎_elim (λ lt. lt) (λ ge. let same : n ≡ body = omega (arith, le, ge) in absurd (false≢true (sym e ∙ (Decides-eqb n body).1 same))) (cases_lt body n)

pub row_near : (p : Rows) (m : Meaning) (code : Code) (n : ℕ) → IsCoded p m code → n < end p code.body → n + 1 < 2 ^ 32
row_near p m code n h to = let le = h.tree.last code.body h.inside in let few = h.few in omega (arith, to, le, few)

pub body_near : (p : Rows) (m : Meaning) (code : Code) → IsCoded p m code → code.body + 1 < 2 ^ 32
body_near p m code h = let few = h.few in let inside = h.inside in omega (arith, few, inside)

-- the places behind a part of the row over it, whose label was read
pub over_label : (old new : Pending) (before behind : List Way) (p : Rows) (m : Meaning) (body n k : ℕ) (c : acts.Completion) (w : states.Pending) (l : Label) (row : ℕ) → row ≡ parent p k → l ≡ label p row
    → AddsWays old new before behind (ended body (left_by l p m row k c w)) → AddsWays old new before behind (ended body (left_by (label p (parent p k)) p m (parent p k) k c w))
over_label old new before behind p m body n k c w l row same e h = subst (λ r. AddsWays old new before behind (ended body (left_by (label p r) p m r k c w))) same (subst (λ x. AddsWays old new before behind (ended body (left_by x p m row k c w))) e h)

-- ---- points

not_zero : (i : ℕ) → nat_eq (suc i) 0 ≡ false
not_zero i = by (nat_eq (suc i) 0) refl
  where
    by : (b : Bool) → nat_eq (suc i) 0 ≡ b → b ≡ false
    by true e = let z = (Decides-eqb (suc i) 0).0 e in absurd (omega (arith, z))
    by false e = refl

-- before an act: the entry of the body, or what the act is
pub before_point : (p : Rows) (m : Meaning) (body n i : ℕ) (b : Bool) → nat_eq i 0 && nat_eq n body ≡ b → (if b then point n kind.Entry else act_point n (slice_get (acts.acts p m n) i)) ≡ point_by (states.before i) p m body n
before_point p m body n zero b e = ap (λ t. if t then point n kind.Entry else act_point n (slice_get (acts.acts p m n) 0)) (sym (sym (ap (λ z. z && nat_eq n body) ((Decides-eqb 0 0).1 refl)) ∙ e))
before_point p m body n (suc i) b e = ap (λ t. if t then point n kind.Entry else act_point n (slice_get (acts.acts p m n) (suc i))) (sym e ∙ ap (λ z. z && nat_eq n body) (not_zero i))

pub completed_point : (p : Rows) (m : Meaning) (body n : ℕ) (c : acts.Completion) (b : Bool) → nat_eq n body ≡ b → (if b then point n (exit_kind c) else None) ≡ point_by (states.completed c) p m body n
completed_point p m body n c b e = ap (λ t. if t then point n (exit_kind c) else None) (sym e)

-- ---- inside a row

pub hops_are : (o : Option acts.Act) (n i next count : ℕ) (w : states.Pending) → next ≡ i + 1 → hops_before o n next count w ≡ act_hops o n i count w
hops_are o n i next count w e = ap (λ k. hops_before o n k count w) e ∙ by o
  where
    by : (o : Option acts.Act) → hops_before o n (i + 1) count w ≡ act_hops o n i count w
    by None = refl
    by (Some (acts.part k)) = refl
    by (Some (acts.event k)) = refl
    by (Some (acts.node k)) = refl
    by (Some (acts.define k d)) = refl
    by (Some (acts.use_of k d)) = refl
    by (Some acts.quit) = refl
    by (Some (acts.fork j)) = refl
    by (Some (acts.choose has_default)) = refl
    by (Some (acts.go j)) = refl
    by (Some (acts.jump c)) = refl
