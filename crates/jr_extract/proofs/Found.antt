-- The locals of a method, as they are found.
use Rattle.std.proofs.Common.{◌≡◌, ◌⊎◌, refl, sym, ◌∙◌, ap, subst, inl, inr, ⊎_elim, arith, ℕ, zero, suc, ◌+◌, ◌<◌, ◌≤◌, Bool, true, false, cond, not, ◌&&◌, ◌||◌, List, [], ◌∷◌, ◌++◌, flat_map, length, append-nil, Option, Some, None, nat_eq, nat_le, nat_lt, option_and_then, slice_get, Decides, add-one}
use Rattle.std.specs.List.{Contains}
use Rattle.std.proofs.lemmas.Bool.{false≢true, cases_lt, or_cases, or_left, or_right}
use Rattle.std.proofs.lemmas.Bool.Decides.{Decides-eqb, Decides-ltb, leb_tells}
use Rattle.std.proofs.lemmas.List.Folds.{list_any-append}
use Rattle.std.proofs.lemmas.List.Sorted.{list_any-IsPermutation}
use Rattle.std.proofs.lemmas.Option.{none-some, same_Some}
use Rattle.jr_tree.specs.Rows.{Rows}
use Rattle.jr_defs.specs.declared.referent.RowType.{RowType}
use Rattle.jr_defs.specs.Referents.{Table}
use Rattle.jr_plain.specs.Search.{gathered, has, Lists}
use Rattle.jr_plain.proofs.Searches.{gathered_tells}
use Rattle.jr_supers.specs.Supers.{ListsOnce, SortsOnce}
use Rattle.jr_supers.proofs.Listing.{once_has, once_is, once_increases}
use Rattle.jr_marks.proofs.Firsts.{gathered_more}
use Rattle.jr_flow_defs.specs.declared.point.Point.{Point}
use Rattle.jr_flow_defs.specs.declared.point.PointKind.{PointKind}
use Rattle.jr_flow_defs.specs.declared.point.PointKind.TheVariants as kind
use Rattle.jr_flow_defs.specs.Edges.{point}
use Rattle.jr_flow_defs.proofs.Searched.{contains_first, contains_more, contains_out}
use Rattle.jr_flow.specs.declared.point.Graph.{Graph}
use Rattle.jr_flow.specs.Reached.{AreReaching, Reaches, steps_of}
use Rattle.jr_extract.specs.declared.locals.Flow.{Flow}
use Rattle.jr_extract.specs.declared.locals.Locals.{Locals}
use Rattle.jr_extract.specs.declared.locals.Variable.{Variable}
use Rattle.jr_extract.specs.declared.run.Run.{Run}
use Rattle.jr_extract.specs.Running.{holds}
use Rattle.jr_extract.specs.Handing.{AreFresh, AreHanded, AreLocalsBy, Brings, Enters, IsLowest, IsNamedIn, Leaves, entering_by, enters, flow_between, flow_of, given, given_at, given_from, leaving_by, leaves, listed, listed_by, local_if, lower, lowest, outer_local, variable_by, variable_list, variables_of, without}

-- ---- numbers that items give

listed_out : (found : Option ℕ) (d : ℕ) → has (listed found) d ≡ true → found ≡ Some d
listed_out None d h = absurd (false≢true h)
listed_out (Some e) d h = ap Some (⊎_elim (λ same. (Decides-eqb e d).0 same) (λ none. absurd (false≢true none)) (or_cases (nat_eq e d) false h))

listed_into : (found : Option ℕ) (d : ℕ) → found ≡ Some d → has (listed found) d ≡ true
listed_into None d e = absurd (none-some d e)
listed_into (Some x) d e = or_left (nat_eq x d) false ((Decides-eqb x d).1 (same_Some x d e))

module _ {A : Type 0} (of : A → Option ℕ) where
  more : (x : A) (rest : List A) (d : ℕ) → has (given of (x ∷ rest)) d ≡ (has (listed (of x)) d || has (given of rest) d)
  more x rest d = list_any-append (λ y. nat_eq y d) (listed (of x)) (given of rest)

  given_out : (items : List A) (d : ℕ) → has (given of items) d ≡ true → (x : A) × Contains items x × (of x ≡ Some d)
  given_out [] d h = absurd (false≢true h)
  given_out (x ∷ rest) d h = ⊎_elim (λ one. (x, contains_first x rest, listed_out (of x) d one)) (λ others. let o = given_out rest d others in (o.0, contains_more x rest o.0 o.1, o.2))
      (or_cases (has (listed (of x)) d) (has (given of rest) d) (sym (more x rest d) ∙ h))

  none_in : (x : A) → Contains [] x → ⊥
  none_in x h = omega (arith, h.1)

  given_into : (items : List A) (d : ℕ) (x : A) → Contains items x → of x ≡ Some d → has (given of items) d ≡ true
  given_into [] d x c e = absurd (none_in x c)
  given_into (y ∷ rest) d x c e = more y rest d ∙ ⊎_elim
      (λ same. or_left (has (listed (of y)) d) _ (listed_into (of y) d (ap of same ∙ e)))
      (λ others. or_right (has (listed (of y)) d) _ (given_into rest d x others e))
      (contains_out y rest x c)

-- ---- the lowest of them

lower_out : (a b : Option ℕ) (d : ℕ) → lower a b ≡ Some d → (a ≡ Some d) ⊎ (b ≡ Some d)
lower_out None b d h = inr h
lower_out (Some x) None d h = inl h
lower_out (Some x) (Some y) d h = by (nat_lt y x) h
  where
    by : (b : Bool) → cond b (Some y) (Some x) ≡ Some d → (Some x ≡ Some d) ⊎ (Some y ≡ Some d)
    by true e = inr e
    by false e = inl e

lower_first : (a b : Option ℕ) (e : ℕ) → a ≡ Some e → (d : ℕ) × (lower a b ≡ Some d) × (d ≤ e)
lower_first None b e h = absurd (none-some e h)
lower_first (Some x) None e h = (x, refl, let same = same_Some x e h in omega arith)
lower_first (Some x) (Some y) e h = by (nat_lt y x) (Decides-ltb y x)
  where
    by : (b : Bool) → Decides b (y < x) → (d : ℕ) × (cond b (Some y) (Some x) ≡ Some d) × (d ≤ e)
    by true t = (y, refl, let same = same_Some x e h in let lt = t.0 refl in omega arith)
    by false t = (x, refl, let same = same_Some x e h in omega arith)

lower_second : (a b : Option ℕ) (e : ℕ) → b ≡ Some e → (d : ℕ) × (lower a b ≡ Some d) × (d ≤ e)
lower_second None b e h = (e, h, omega arith)
lower_second (Some x) None e h = absurd (none-some e h)
lower_second (Some x) (Some y) e h = by (nat_lt y x) (Decides-ltb y x)
  where
    by : (b : Bool) → Decides b (y < x) → (d : ℕ) × (cond b (Some y) (Some x) ≡ Some d) × (d ≤ e)
    by true t = (y, refl, let same = same_Some y e h in omega arith)
    by false t = (x, refl, let same = same_Some y e h in ⊎_elim (λ lt. absurd (false≢true (t.1 lt))) (λ le. omega arith) (cases_lt y x))

lowest_like : (P Q : ℕ → Type 0) (found : Option ℕ) → IsLowest P found → ((d : ℕ) → P d → Q d) → ((e : ℕ) → Q e → (d : ℕ) × P d × (d ≤ e)) → IsLowest Q found
lowest_like P Q None h to back = λ d q. let b = back d q in h b.0 b.1
lowest_like P Q (Some d) h to back = (to d h.0, λ e q. let b = back e q in let le = h.1 b.0 b.1 in let other = b.2 in omega arith)

module _ {A : Type 0} (of : A → Option ℕ) where
  abbrev pub Gives : List A → ℕ → Type 0
  Gives items d = (x : A) × Contains items x × (of x ≡ Some d)

  lowest_none : (first : Option ℕ) → IsLowest (λ d. (first ≡ Some d) ⊎ Gives [] d) first
  lowest_none None = λ d h. ⊎_elim (λ e. none-some d e) (λ g. none_in of g.0 g.1) h
  lowest_none (Some x) = (inl refl, λ e h. ⊎_elim (λ same. let is = same_Some x e same in omega arith) (λ g. absurd (none_in of g.0 g.1)) h)

  pub lowest_is : (first : Option ℕ) (items : List A) → IsLowest (λ d. (first ≡ Some d) ⊎ Gives items d) (lowest of first items)
  lowest_is first [] = lowest_none first
  lowest_is first (x ∷ rest) = lowest_like (λ d. (lower first (of x) ≡ Some d) ⊎ Gives rest d) (λ d. (first ≡ Some d) ⊎ Gives (x ∷ rest) d) (lowest of (lower first (of x)) rest) (lowest_is (lower first (of x)) rest)
      (λ d h. ⊎_elim (λ l. ⊎_elim (λ e. inl e) (λ e. inr (x, contains_first x rest, e)) (lower_out first (of x) d l)) (λ g. inr (g.0, contains_more x rest g.0 g.1, g.2)) h)
      (λ e h. ⊎_elim
      (λ f. let l = lower_first first (of x) e f in (l.0, inl l.1, l.2))
      (λ g. ⊎_elim (λ same. let l = lower_second first (of x) e (ap of same ∙ g.2) in (l.0, inl l.1, l.2)) (λ others. (e, inr (g.0, others, g.2), omega arith)) (contains_out x rest g.0 g.1)) h)

-- ---- what rows give, from one on

before_first : (of : ℕ → Option ℕ) (first n : ℕ) → n < first → given_at of first n ≡ []
before_first of first n lt = ⊎_elim (λ h. let le : first ≤ n = h.1 in absurd (omega arith)) (λ h. ap (λ b. cond b (listed (of n)) []) h.0) (leb_tells first n)

from_first : (of : ℕ → Option ℕ) (first n : ℕ) → first ≤ n → given_at of first n ≡ listed (of n)
from_first of first n le = ⊎_elim (λ h. ap (λ b. cond b (listed (of n)) []) h.0) (λ h. let lt : n < first = h.1 in absurd (omega arith)) (leb_tells first n)

none_given : (of : ℕ → Option ℕ) (first n : ℕ) → n ≤ first → gathered n (given_at of first) ≡ []
none_given of first zero le = refl
none_given of first (suc n) le = ap (λ xs. xs ++ given_at of first n) (none_given of first n (omega arith)) ∙ before_first of first n (omega arith)

pub given_start : (of : ℕ → Option ℕ) (first : ℕ) (all : List ℕ) → all ≡ [] → all ≡ gathered first (given_at of first)
given_start of first all none = none ∙ sym (none_given of first first (omega arith))

pub given_more : (of : ℕ → Option ℕ) (first at : ℕ) (all new : List ℕ) → first ≤ at → all ≡ gathered at (given_at of first) → new ≡ all ++ listed (of at) → new ≡ gathered (at + 1) (given_at of first)
given_more of first at all new le h made = gathered_more (given_at of first) at [] all new (listed (of at)) h made (sym (from_first of first at le))

pub given_all : (of : ℕ → Option ℕ) (first end at : ℕ) (all : List ℕ) → (end < first → all ≡ []) → all ≡ gathered at (given_at of first) → end ≤ at → (first ≤ end → at ≡ end) → all ≡ given_from of first end
given_all of first end at all none found past same = ⊎_elim (λ lt. none lt ∙ sym (none_given of first end (omega arith))) (λ le. found ∙ ap (λ n. gathered n (given_at of first)) (same le)) (cases_lt end first)

pub lowest_next : {A : Type 0} (of : A → Option ℕ) (first new found all : Option ℕ) (left more : List A) (x : A) → left ≡ x ∷ more → found ≡ of x → new ≡ lower first found → lowest of first left ≡ all → lowest of new more ≡ all
lowest_next of first new found all left more x e is made before = ap (λ n. lowest of n more) (made ∙ ap (lower first) is) ∙ sym (ap (lowest of first) e) ∙ before

pub lowest_end : {A : Type 0} (of : A → Option ℕ) (first all : Option ℕ) (left : List A) → left ≡ [] → lowest of first left ≡ all → first ≡ all
lowest_end of first all left none before = sym (ap (lowest of first) none) ∙ before

-- ---- in order, each once

ordered_lists : (P : ℕ → Type 0) (all out : List ℕ) → Lists all P → SortsOnce all out → ListsOnce out P
ordered_lists P all out lists s = subst (λ xs. ListsOnce xs P) (sym s.is) (record {
  rises = once_increases s.sorted s.rising;
  has = λ m. (
    (λ at. (lists m).0 (list_any-IsPermutation (λ k. nat_eq k m) all s.sorted s.moved ∙ once_is s.sorted m at)),
    (λ h. once_has s.sorted m (sym (list_any-IsPermutation (λ k. nat_eq k m) all s.sorted s.moved) ∙ (lists m).1 h)),
  );
})

pub sorted_lists : (P : ℕ → Type 0) (all passed out : List ℕ) → Lists all P → passed ≡ all → SortsOnce passed out → ListsOnce out P
sorted_lists P all passed out lists same s = ordered_lists P all out lists (subst (λ xs. SortsOnce xs out) same s)

-- ---- flows

-- a test of a flow gives its local
local_out : (test : Flow → Bool) (found : Option Flow) (d : ℕ) → local_if test found ≡ Some d → (f : Flow) × (found ≡ Some f) × (test f ≡ true) × (f.local ≡ d)
local_out test None d h = absurd (none-some d h)
local_out test (Some f) d h = by (test f) refl h
  where
    by : (b : Bool) → test f ≡ b → cond b (Some f.local) None ≡ Some d → (g : Flow) × (Some f ≡ Some g) × (test g ≡ true) × (g.local ≡ d)
    by true is e = (f, refl, is, same_Some f.local d e)
    by false is e = absurd (none-some d e)

local_into : (test : Flow → Bool) (found : Option Flow) (f : Flow) → found ≡ Some f → test f ≡ true → local_if test found ≡ Some f.local
local_into test found f is passes = ap (local_if test) is ∙ ap (λ b. cond b (Some f.local) None) passes

-- the flow of a definition and a use
flow_is : (graph : Graph) (i j d from to : ℕ) → slice_get graph.points.items i ≡ point from (kind.Definition d) → slice_get graph.points.items j ≡ point to (kind.Use d)
    → flow_of graph.points.items (i, j) ≡ Some (record { local = d; from = from; to = to })
flow_is graph i j d from to defines uses = subst (λ x. between x (slice_get graph.points.items j)) (sym defines) (subst (λ y. between (point from (kind.Definition d)) y) (sym uses) refl)
  where
    between : Option Point → Option Point → Type 0
    between x y = flow_between x y ≡ Some (record { local = d; from = from; to = to })

both : (a b : Bool) → (a && b) ≡ true → (a ≡ true) × (b ≡ true)
both true b h = (refl, h)
both false b h = absurd (false≢true h)

negated : (b : Bool) → not b ≡ true → b ≡ false
negated true h = absurd (false≢true h)
negated false h = refl

passes : (a b : Bool) → a ≡ true → b ≡ true → (a && b) ≡ true
passes true true x y = refl
passes true false x y = y
passes false b x y = x

module _ (graph : Graph) (run : Run) (pairs : List (ℕ × ℕ)) (reaching : AreReaching graph.points.items (steps_of graph) pairs) where
  -- what a pair tells
  brings : (pair : ℕ × ℕ) (f : Flow) → Contains pairs pair → flow_of graph.points.items pair ≡ Some f → Brings graph f.local f.from f.to
  brings pair f c is = let r = reaching.only pair.0 pair.1 c in let e = same_Some _ f (sym (flow_is graph pair.0 pair.1 r.local r.from r.to r.defines r.uses) ∙ is) in
      subst (λ g. Brings graph g.local g.from g.to) e (record { from = pair.0; to = pair.1; defines = r.defines; uses = r.uses; path = r.path })

  entering_out : (d : ℕ) → has (given (entering_by graph.points.items run) pairs) d ≡ true → Enters graph run d
  entering_out d h = let o = given_out (entering_by graph.points.items run) pairs d h in let l = local_out (enters run) (flow_of graph.points.items o.0) d o.2 in
      let t = both (not (holds run l.0.local) && not (holds run l.0.from)) _ l.2 in let u = both (not (holds run l.0.local)) _ t.0 in
      subst (Enters graph run) l.3 (record { from = l.0.from; to = l.0.to; brings = brings o.0 l.0 o.1 l.1; outer = negated _ u.0; outside = negated _ u.1; inside = t.1 })

  entering_into : (d : ℕ) → Enters graph run d → has (given (entering_by graph.points.items run) pairs) d ≡ true
  entering_into d e = let b = e.brings in given_into (entering_by graph.points.items run) pairs d (b.from, b.to)
      (reaching.every b.from b.to (record { local = d; from = e.from; to = e.to; defines = b.defines; uses = b.uses; path = b.path }))
      (local_into (enters run) _ (record { local = d; from = e.from; to = e.to }) (flow_is graph b.from b.to d e.from e.to b.defines b.uses)
      (passes _ _ (passes _ _ (ap not e.outer) (ap not e.outside)) e.inside))

  pub entering_lists : (all : List ℕ) → all ≡ given (entering_by graph.points.items run) pairs → Lists all (Enters graph run)
  entering_lists all is = subst (λ xs. Lists xs (Enters graph run)) (sym is) (λ d. (entering_out d, entering_into d))

  leaving_out : (pair : ℕ × ℕ) (d : ℕ) → Contains pairs pair → leaving_by graph.points.items run pair ≡ Some d → Leaves graph run d
  leaving_out pair d c h = let l = local_out (leaves run) (flow_of graph.points.items pair) d h in let t = both (holds run l.0.from) _ l.2 in
      subst (Leaves graph run) l.3 (record { from = l.0.from; to = l.0.to; brings = brings pair l.0 c l.1; inside = t.0; outside = negated _ t.1 })

  leaving_into : (d : ℕ) → Leaves graph run d → (pair : ℕ × ℕ) × Contains pairs pair × (leaving_by graph.points.items run pair ≡ Some d)
  leaving_into d e = let b = e.brings in (
    (b.from, b.to),
    reaching.every b.from b.to (record { local = d; from = e.from; to = e.to; defines = b.defines; uses = b.uses; path = b.path }),
    local_into (leaves run) _ (record { local = d; from = e.from; to = e.to }) (flow_is graph b.from b.to d e.from e.to b.defines b.uses) (passes _ _ e.inside (ap not e.outside)),
  )

  leaving_lowest : IsLowest (Leaves graph run) (lowest (leaving_by graph.points.items run) None pairs)
  leaving_lowest = lowest_like (λ d. (None ≡ Some d) ⊎ ((pair : ℕ × ℕ) × Contains pairs pair × (leaving_by graph.points.items run pair ≡ Some d))) (Leaves graph run) (lowest (leaving_by graph.points.items run) None pairs)
      (lowest_is (leaving_by graph.points.items run) None pairs)
      (λ d h. ⊎_elim (λ e. absurd (none-some d e)) (λ g. leaving_out g.0 d g.1 g.2) h)
      (λ e l. (e, inr (leaving_into e l), omega arith))

  pub leaving_is : (found : Option ℕ) → found ≡ lowest (leaving_by graph.points.items run) None pairs → IsLowest (Leaves graph run) found
  leaving_is found is = subst (IsLowest (Leaves graph run)) (sym is) leaving_lowest

  -- all of them
  pub handed_so : (p : Rows) (t : Table) (entering : List ℕ) (leaving : Option ℕ) (locals : Locals) → ListsOnce entering (Enters graph run) → leaving ≡ lowest (leaving_by graph.points.items run) None pairs
      → AreLocalsBy p t run entering leaving locals → AreHanded p t graph run locals
  handed_so p t entering leaving locals enter is by = record { entering = entering; leaving = leaving; enter = enter; leave = leaving_is leaving is; handed = by }

-- ---- variables

pub typed_so : (d : ℕ) (ty : RowType) (found : Option RowType) → Some ty ≡ found → Some (record { row = d; ty = ty }) ≡ variable_by d found
typed_so d ty found is = ap (variable_by d) is

pub pushed_so : (old new : List Variable) (v : Variable) (found : Option Variable) → new ≡ old ++ v ∷ [] → Some v ≡ found → new ≡ old ++ variable_list found
pushed_so old new v found made is = made ∙ ap (λ found. old ++ variable_list found) is

-- ---- locals that are named

module _ (p : Rows) (t : Table) (run : Run) where
  named_out : (d : ℕ) → (k : ℕ) × (k < run.rows.end) × (has (given_at (outer_local p t run) run.rows.first k) d ≡ true) → IsNamedIn p t run d
  named_out d h = ⊎_elim
      (λ le. record {
        row = h.0;
        inside = passes (nat_le run.rows.first h.0) (nat_lt h.0 run.rows.end) le.0 ((Decides-ltb h.0 run.rows.end).1 h.1);
        names = listed_out (outer_local p t run h.0) d (ap (λ xs. has xs d) (sym (from_first (outer_local p t run) run.rows.first h.0 le.1)) ∙ h.2);
      })
      (λ lt. absurd (false≢true (sym (ap (λ xs. has xs d) (before_first (outer_local p t run) run.rows.first h.0 lt.1)) ∙ h.2)))
      (leb_tells run.rows.first h.0)

  named_into : (d : ℕ) → IsNamedIn p t run d → (k : ℕ) × (k < run.rows.end) × (has (given_at (outer_local p t run) run.rows.first k) d ≡ true)
  named_into d n = let i = both (nat_le run.rows.first n.row) _ n.inside in (
    n.row,
    (Decides-ltb n.row run.rows.end).0 i.1,
    ⊎_elim (λ le. ap (λ xs. has xs d) (from_first (outer_local p t run) run.rows.first n.row le.1) ∙ listed_into (outer_local p t run n.row) d n.names) (λ lt. absurd (false≢true (sym lt.0 ∙ i.0))) (leb_tells run.rows.first n.row),
  )

  pub named_lists : (all : List ℕ) → all ≡ given_from (outer_local p t run) run.rows.first run.rows.end → Lists all (IsNamedIn p t run)
  named_lists all is = subst (λ xs. Lists xs (IsNamedIn p t run)) (sym is) (λ d. let g = gathered_tells nat_eq Decides-eqb (given_at (outer_local p t run) run.rows.first) run.rows.end d in (λ h. named_out d (g.0 h), λ n. g.1 (named_into d n)))

  pub fresh_so : (entering named others : List ℕ) (fresh : List Variable) → ListsOnce named (IsNamedIn p t run) → others ≡ without named entering → fresh ≡ variables_of p t others → AreFresh p t run entering fresh
  fresh_so entering named others fresh name left typed = record { named = named; naming = name; others = typed ∙ ap (variables_of p t) left }
