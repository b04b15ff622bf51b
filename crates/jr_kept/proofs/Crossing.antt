-- What is handed on between a body and a method that it calls, by points and in a flow.
use Rattle.std.proofs.Common.{◌≡◌, ◌⊎◌, inl, inr, ⊎_elim, refl, sym, ◌∙◌, ap, subst, arith, ℕ, zero, suc, ◌+◌, ◌-◌, ◌<◌, ◌≤◌, Bool, true, false, not, ◌&&◌, if◌then◌else◌, List, [], ◌∷◌, ◌++◌, length, Option, Some, None, IfSome, IfNone, is_some, nat_eq, nat_lt, slice_get, slice_set, slice_index_or, Decides}
use Rattle.std.proofs.lemmas.Bool.{false≢true, cases_lt, ltb-false}
use Rattle.std.proofs.lemmas.Bool.Decides.{Decides-eqb}
use Rattle.std.proofs.lemmas.Option.{none-some, same_Some}
use Rattle.jr_tree.specs.Rows.{Rows, label, parent, end}
use Rattle.jr_locks.specs.Origins.{no_row, origin_of, row_by}
use Rattle.jr_flow_defs.specs.declared.point.Point.{Point}
use Rattle.jr_flow_defs.specs.declared.point.PointKind.{PointKind}
use Rattle.jr_flow_defs.specs.declared.point.PointKind.TheVariants as kind
use Rattle.jr_flow_defs.specs.Acts.{siblings}
use Rattle.jr_flow_defs.specs.Paths.{Flow}
use Rattle.jr_flow_defs.specs.Edges.{point, IsGraph}
use Rattle.jr_flow_defs.specs.Graphs.{StepList}
use Rattle.jr_flow_defs.specs.Kept.{Origin, is_statement, statement_round, IsAssigned, IsReturned, Hands, IsHanding}
use Rattle.jr_flow.proofs.Siblings.{more_written, next}
use Rattle.jr_kept.specs.declared.handing.Crossing.{Crossing}
use Rattle.jr_kept.specs.declared.handing.Handing.{Handing}
use Rattle.jr_kept.specs.Disturbed.{is_inside, some_if}
use Rattle.jr_kept.specs.Gathered.{use_in}
use Rattle.jr_kept.specs.Handed.{defined_by, defined_in, used_by, added_in, IsDefinedAt, IsAddedAt, AddsOne, AddsPairs, AddsAssigned, AreOne, IsFrom, are_one, is_none_or, is_from, has_pair, HasPairs, HasAssigned, IsOnly, IsCrossing, IsAssignedIn, OnlyCrosses, HasCrossing, IsHandingOf}
use Rattle.jr_kept.proofs.Comparing.{place_of}
use Rattle.jr_kept.proofs.Naming.{get_inside}
use Rattle.jr_kept.proofs.Disturbing.{and_true, and_out, inside_tells}

-- ---- rows

pub sibling_written : (p : Rows) (old new all : List ℕ) (room turn k stop behind : ℕ) → turn < room → k < stop → behind ≡ end p k → new ≡ old ++ k ∷ []
    → old ++ siblings p (room - turn) k stop ≡ all → new ++ siblings p (room - (turn + 1)) behind stop ≡ all
sibling_written p old new all room turn k stop behind lt before ends e h = rw ends (more_written [] old new k (siblings p (room - (turn + 1)) (end p k) stop) all e
    (ap (λ xs. old ++ xs) (sym (next p room turn k stop lt before)) ∙ h))

statement_by : (p : Rows) (room n : ℕ) (b : Bool) → is_statement (label p n) ≡ b → statement_round p (suc room) n ≡ (if b then n else statement_round p room (parent p n))
statement_by p room n b e = ap (λ t. if t then n else statement_round p room (parent p n)) e

turns_left : (row turn : ℕ) → turn < row → row - turn ≡ suc (row - (turn + 1))
turns_left row turn lt = omega arith

pub statement_turns : (p : Rows) (row turn n : ℕ) (b : Bool) → turn < row → is_statement (label p n) ≡ b → statement_round p (row - turn) n ≡ (if b then n else statement_round p (row - (turn + 1)) (parent p n))
statement_turns p row turn n b lt e = ap (λ room. statement_round p room n) (turns_left row turn lt) ∙ statement_by p (row - (turn + 1)) n b e

-- a statement does not come behind what stands in it
pub statement_before : (p : Rows) → ((n : ℕ) → parent p n ≤ n) → (room n : ℕ) → statement_round p room n ≤ n
statement_before p up zero n = omega arith
statement_before p up (suc room) n = by (statement_before p up room (parent p n)) (is_statement (label p n)) refl
  where
    by : statement_round p room (parent p n) ≤ parent p n → (b : Bool) → is_statement (label p n) ≡ b → statement_round p (suc room) n ≤ n
    by rest true e = subst (λ k. k ≤ n) (sym (statement_by p room n true e)) (omega arith)
    by rest false e = let over = up n in subst (λ k. k ≤ n) (sym (statement_by p room n false e)) (omega (arith, over, rest))

-- ---- one definition more

abbrev pub by_list : ℕ → List ℕ → ℕ → Option ℕ
by_list first xs d = if nat_lt d first then None else row_by (origin_of xs (d - first))

row_if : (b : Bool) (n k : ℕ) → (if b then None else Some n) ≡ Some k → n ≡ k
row_if true n k e = absurd (none-some k e)
row_if false n k e = same_Some n k e

row_tells : (n k : ℕ) → row_by n ≡ Some k → n ≡ k
row_tells n k e = row_if (nat_eq n no_row) n k e

set_tells : (xs : List ℕ) (i j y z : ℕ) → (slice_index_or (slice_set xs i y) j z ≡ slice_index_or xs j z) ⊎ ((i ≡ j) × (slice_index_or (slice_set xs i y) j z ≡ y))
set_tells [] i j y z = inl refl
set_tells (x ∷ xs) zero zero y z = inr (refl, refl)
set_tells (x ∷ xs) zero (suc j) y z = inl refl
set_tells (x ∷ xs) (suc i) zero y z = inl refl
set_tells (x ∷ xs) (suc i) (suc j) y z = ⊎_elim (λ same. inl same) (λ o. inr (ap suc o.0, o.1)) (set_tells xs i j y z)

pub put_tells : (first : ℕ) (old new : List ℕ) (definition from : ℕ) → first ≤ definition → new ≡ slice_set old (definition - first) from
    → (d k : ℕ) → by_list first new d ≡ Some k → (by_list first old d ≡ Some k) ⊎ ((Some definition ≡ Some d) × (Some from ≡ Some k))
put_tells first old new definition from le is d k e = by (nat_lt d first) refl
  where
    by : (b : Bool) → nat_lt d first ≡ b → (by_list first old d ≡ Some k) ⊎ ((Some definition ≡ Some d) × (Some from ≡ Some k))
    by true is_less = absurd (none-some k (sym (ap (λ b. if b then None else row_by (origin_of new (d - first))) is_less) ∙ e))
    by false not_less = ⊎_elim
        (λ same. inl (ap (λ b. if b then None else row_by (origin_of old (d - first))) not_less ∙ ap row_by (sym same) ∙ here))
        (λ o. let place = o.0 in let past = ltb-false d first not_less in let whole : definition ≡ d = omega (arith, place, le, past) in inr (ap Some whole, ap Some (sym o.1 ∙ row_tells (origin_of (slice_set old (definition - first) from) (d - first)) k here)))
        (set_tells old (definition - first) (d - first) from no_row)
      where
        here : row_by (origin_of (slice_set old (definition - first) from) (d - first)) ≡ Some k
        here = ap (λ xs. row_by (origin_of xs (d - first))) (sym is) ∙ sym (ap (λ b. if b then None else row_by (origin_of new (d - first))) not_less) ∙ e

-- ---- the table

pub pairs_more : (old mid new : Handing) (definitions uses : List ℕ) (place : ℕ) (one other : Option ℕ) → one ≡ slice_get definitions place → other ≡ slice_get uses place → AddsPairs old mid definitions uses → AddsOne mid new one other → AddsPairs old new definitions uses
pairs_more old mid new definitions uses place one other is other_is h adds d k e = ⊎_elim (λ early. h d k early) (λ o. inr (record { place = place; definition = sym is ∙ o.0; used = sym other_is ∙ o.1 })) (adds d k e)

pub assigned_more : (old mid new : Handing) (points : List Point) (first last number : ℕ) (one from : Option ℕ) → one ≡ defined_in first last (slice_get points number) → AddsAssigned old mid points first last from → AddsOne mid new one from → AddsAssigned old new points first last from
assigned_more old mid new points first last number one from is h adds d k e = ⊎_elim (λ early. h d k early) (λ o. inr (record { number = number; defines = sym is ∙ o.0 }, o.1)) (adds d k e)

pub crosses : (empty mid last : Handing) (crossing : Crossing) (points : List Point) → ((d : ℕ) → use_in empty d ≡ None) → AddsPairs empty mid crossing.parameters.items crossing.arguments.items
    → AddsAssigned mid last points crossing.statement.first crossing.statement.end crossing.returned → OnlyCrosses last crossing points
crosses empty mid last crossing points none pairs assigned d k e = ⊎_elim (λ early. ⊎_elim (λ at_first. absurd (none-some k (sym (none d) ∙ at_first))) (λ pair. inl pair) (pairs d k early)) (λ late. inr late) (assigned d k e)

-- ---- tests of a table

pub one_tells : (a b : Option ℕ) → Decides (are_one a b) (AreOne a b)
one_tells None b = (λ e. absurd (false≢true e), λ o. absurd (none-some o.row o.first))
one_tells (Some row) None = (λ e. absurd (false≢true e), λ o. absurd (none-some o.row o.second))
one_tells (Some row) (Some same) = (
  λ e. record { row = row; first = refl; second = ap Some (sym ((Decides-eqb row same).0 e)) },
  λ o. (Decides-eqb row same).1 (same_Some row o.row o.first ∙ sym (same_Some same o.row o.second)),
)

pub none_or_tells : (found row : Option ℕ) → Decides (is_none_or found row) ((k : ℕ) → found ≡ Some k → row ≡ Some k)
none_or_tells None row = (λ e k is. absurd (none-some k is), λ h. refl)
none_or_tells (Some n) row = (
  λ e k is. let one = (one_tells (Some n) row).0 e in one.second ∙ sym one.first ∙ is,
  λ h. (one_tells (Some n) row).1 (record { row = n; first = refl; second = h n refl }),
)

pub from_tells : (handing : Handing) (definition from : Option ℕ) → Decides (is_from handing definition from) ((d : ℕ) → definition ≡ Some d → IsFrom handing from d)
from_tells handing None from = (λ e d is. absurd (none-some d is), λ h. refl)
from_tells handing (Some n) from = (λ e d is. subst (IsFrom handing from) (same_Some n d is) ((one_tells from (use_in handing n)).0 e), λ h. (one_tells from (use_in handing n)).1 (h n refl))

pub pair_tells : (handing : Handing) (definition from : Option ℕ) → Decides (has_pair handing definition from) ((d k : ℕ) → definition ≡ Some d → from ≡ Some k → use_in handing d ≡ Some k)
pair_tells handing definition None = (λ e d k is from. absurd (none-some k from), λ h. refl)
pair_tells handing definition (Some n) = (
  λ e d k is from. let one = (from_tells handing definition (Some n)).0 e d is in one.second ∙ sym one.first ∙ from,
  λ h. (from_tells handing definition (Some n)).1 (λ d is. record { row = n; first = refl; second = h d n is refl }),
)

pub has_pairs_more : (handing : Handing) (definitions uses : List ℕ) (n : ℕ) (one other : Option ℕ) → one ≡ slice_get definitions n → other ≡ slice_get uses n
    → ((d k : ℕ) → one ≡ Some d → other ≡ Some k → use_in handing d ≡ Some k) → HasPairs handing definitions uses n → HasPairs handing definitions uses (n + 1)
has_pairs_more handing definitions uses n one other is other_is now h i d k lt e f = ⊎_elim (λ early. h i d k early e f)
    (λ past. let same : n ≡ i = omega (arith, lt, past) in now d k (is ∙ ap (slice_get definitions) same ∙ e) (other_is ∙ ap (slice_get uses) same ∙ f)) (cases_lt i n)

pub has_assigned_more : (handing : Handing) (points : List Point) (first last : ℕ) (from : Option ℕ) (n : ℕ) (one : Option ℕ) → one ≡ defined_in first last (slice_get points n)
    → ((d : ℕ) → one ≡ Some d → IsFrom handing from d) → HasAssigned handing points first last from n → HasAssigned handing points first last from (n + 1)
has_assigned_more handing points first last from n one is now h i d lt e = ⊎_elim (λ early. h i d early e)
    (λ past. let same : n ≡ i = omega (arith, lt, past) in now d (is ∙ ap (λ m. defined_in first last (slice_get points m)) same ∙ e)) (cases_lt i n)

pub only_more : (points : List Point) (first last : ℕ) (origin : Origin) (from : Option ℕ) (n : ℕ) (one : Option ℕ) → one ≡ added_in first last origin (slice_get points n)
    → ((k : ℕ) → one ≡ Some k → from ≡ Some k) → IsOnly points first last origin from n → IsOnly points first last origin from (n + 1)
only_more points first last origin from n one is now h i k lt e = ⊎_elim (λ early. h i k early e)
    (λ past. let same : n ≡ i = omega (arith, lt, past) in now k (is ∙ ap (λ m. added_in first last origin (slice_get points m)) same ∙ e)) (cases_lt i n)

-- the tests tell all
pub crossing_tells : (handing : Handing) (crossing : Crossing) (points : List Point) (origin : Origin) → HasPairs handing crossing.parameters.items crossing.arguments.items (length crossing.parameters.items)
    → HasAssigned handing points crossing.statement.first crossing.statement.end crossing.returned (length points) → IsOnly points crossing.method.first crossing.method.end origin crossing.returned (length points) → HasCrossing handing crossing points origin
crossing_tells handing crossing points origin pairs assigned only = record {
  pairs = λ d k p. pairs p.place d k (get_inside crossing.parameters.items p.place d p.definition) p.definition p.used;
  assigned = λ d a. assigned a.number d (point_at_number crossing.statement.first crossing.statement.end d a.number a.defines) a.defines;
  one = λ k a. only a.number k (added_at_number crossing.method.first crossing.method.end k a.number a.uses) a.uses;
}
  where
    inside : (number : ℕ) (o : Option Point) → slice_get points number ≡ o → (o ≡ None → ⊥) → number < length points
    inside number None e some = absurd (some refl)
    inside number (Some x) e some = get_inside points number x e

    point_at_number : (first last d number : ℕ) → defined_in first last (slice_get points number) ≡ Some d → number < length points
    point_at_number first last d number e = inside number (slice_get points number) refl (λ none. none-some d (ap (defined_in first last) (sym none) ∙ e))

    added_at_number : (first last k number : ℕ) → added_in first last origin (slice_get points number) ≡ Some k → number < length points
    added_at_number first last k number e = inside number (slice_get points number) refl (λ none. none-some k (ap (added_in first last origin) (sym none) ∙ e))

pub crossing_pairs : (handing : Handing) (crossing : Crossing) (points : List Point) (origin : Origin) → HasCrossing handing crossing points origin → HasPairs handing crossing.parameters.items crossing.arguments.items (length crossing.parameters.items)
crossing_pairs handing crossing points origin h i d k lt e f = h.pairs d k (record { place = i; definition = e; used = f })

pub crossing_assigned : (handing : Handing) (crossing : Crossing) (points : List Point) (origin : Origin) → HasCrossing handing crossing points origin
    → HasAssigned handing points crossing.statement.first crossing.statement.end crossing.returned (length points)
crossing_assigned handing crossing points origin h i d lt e = h.assigned d (record { number = i; defines = e })

pub crossing_only : (handing : Handing) (crossing : Crossing) (points : List Point) (origin : Origin) → HasCrossing handing crossing points origin → IsOnly points crossing.method.first crossing.method.end origin crossing.returned (length points)
crossing_only handing crossing points origin h i k lt e = h.one k (record { number = i; uses = e })

pub none_added_more : (points : List Point) (first last : ℕ) (origin : Origin) (n : ℕ) (one : Option ℕ) → one ≡ added_in first last origin (slice_get points n) → one ≡ None → ((i k : ℕ) → i < n → added_in first last origin (slice_get points i) ≡ Some k → ⊥)
    → (i k : ℕ) → i < n + 1 → added_in first last origin (slice_get points i) ≡ Some k → ⊥
none_added_more points first last origin n one is none h i k lt e = ⊎_elim (λ early. h i k early e)
    (λ past. let same : n ≡ i = omega (arith, lt, past) in none-some k (sym none ∙ is ∙ ap (λ m. added_in first last origin (slice_get points m)) same ∙ e)) (cases_lt i n)

pub none_added : (points : List Point) (first last : ℕ) (origin : Origin) (n : ℕ) → length points ≤ n → ((i k : ℕ) → i < n → added_in first last origin (slice_get points i) ≡ Some k → ⊥) → (k : ℕ) → IsAddedAt points first last origin k → ⊥
none_added points first last origin n all h k a = by (slice_get points a.number) refl
  where
    by : (o : Option Point) → slice_get points a.number ≡ o → ⊥
    by None e = none-some k (ap (added_in first last origin) (sym e) ∙ a.uses)
    by (Some x) e = let lt = get_inside points a.number x e in h a.number k (omega (arith, lt, all)) a.uses

-- a crossing that was found is the one of a table that has what crosses
pub crossing_stands : (handing : Handing) (crossing : Crossing) (q : Rows) (points : List Point) (call method : ℕ) (origin : Origin) → IsCrossing crossing q points call method origin
    → IfNone crossing.returned ((k : ℕ) → IsAddedAt points method (end q method) origin k → ⊥) → IsHandingOf handing q points call method origin → HasCrossing handing crossing points origin
crossing_stands handing crossing q points call method origin is none h = record {
  pairs = λ d k p. h.all.pairs d k (record {
    place = p.place;
    definition = ap (λ xs. slice_get xs p.place) (h.is.parameters ∙ sym is.parameters) ∙ p.definition;
    used = ap (λ xs. slice_get xs p.place) (h.is.arguments ∙ sym is.arguments) ∙ p.used;
  });
  assigned = λ d a. subst (λ o. IsFrom handing o d) same (h.all.assigned d
      (subst (λ n. IsDefinedAt points n h.crossing.statement.end d) (is.statement.0 ∙ sym h.is.statement.0) (subst (λ n. IsDefinedAt points crossing.statement.first n d) (is.statement.1 ∙ sym h.is.statement.1) a)));
  one = λ k a. sym same ∙ others k (subst (λ n. IsAddedAt points n (end q method) origin k) is.inside.0 (subst (λ n. IsAddedAt points crossing.method.first n origin k) is.inside.1 a));
}
  where
    others : (k : ℕ) → IsAddedAt points method (end q method) origin k → h.crossing.returned ≡ Some k
    others k a = h.all.one k (subst (λ n. IsAddedAt points n h.crossing.method.end origin k) (sym h.is.inside.0) (subst (λ n. IsAddedAt points method n origin k) (sym h.is.inside.1) a))

    by : (o r : Option ℕ) → h.crossing.returned ≡ r → IfSome o (λ k. IsAddedAt points method (end q method) origin k) → IfNone o ((k : ℕ) → IsAddedAt points method (end q method) origin k → ⊥)
        → IfSome r (λ k. IsAddedAt points method (end q method) origin k) → h.crossing.returned ≡ o
    by (Some k) r e added free other = others k added
    by None None e added free other = e
    by None (Some k) e added free other = absurd (free k other)

    same : h.crossing.returned ≡ crossing.returned
    same = by crossing.returned h.crossing.returned refl is.returned none h.is.returned

-- ---- points

-- the local gets a value at the point, which stands inside
record Gives (o : Option Point) (first last d : ℕ) : Type 0 where
  local : ℕ
  stands : o ≡ point d (kind.Definition local)
  inside : (first < d) × (d < last)

-- the point is an added use inside
record Takes (o : Option Point) (first last : ℕ) (origin : Origin) (k : ℕ) : Type 0 where
  local : ℕ
  stands : o ≡ point k (kind.Use local)
  inside : (first < k) × (k < last)
  added : origin k ≡ None

some_out : (row d : ℕ) (b : Bool) → some_if row b ≡ Some d → (b ≡ true) × (row ≡ d)
some_out row d true e = (refl, same_Some row d e)
some_out row d false e = absurd (none-some d e)

defined_out : (k : PointKind) (row d : ℕ) (b : Bool) → defined_by k row b ≡ Some d → (local : ℕ) × (k ≡ kind.Definition local) × (b ≡ true) × (row ≡ d)
defined_out (kind.Definition local) row d b e = let o = some_out row d b e in (local, refl, o.0, o.1)
defined_out _ row d b e = absurd (none-some d e)

used_out : (k : PointKind) (row d : ℕ) (b : Bool) → used_by k row b ≡ Some d → (local : ℕ) × (k ≡ kind.Use local) × (b ≡ true) × (row ≡ d)
used_out (kind.Use local) row d b e = let o = some_out row d b e in (local, refl, o.0, o.1)
used_out _ row d b e = absurd (none-some d e)

gives : (first last d : ℕ) (o : Option Point) → defined_in first last o ≡ Some d → Gives o first last d
gives first last d None e = absurd (none-some d e)
gives first last d (Some x) e = let o = defined_out x.kind x.row d (is_inside first last x.row) e in record {
  local = o.0;
  stands = ap (λ (k : PointKind). point x.row k) o.1 ∙ ap (λ n. point n (kind.Definition o.0)) o.3;
  inside = subst (λ n. (first < n) × (n < last)) o.3 ((inside_tells first last x.row).0 o.2);
}

no_origin : (o : Option ℕ) → not (is_some o) ≡ true → o ≡ None
no_origin None e = refl
no_origin (Some k) e = absurd (false≢true e)

takes : (first last : ℕ) (origin : Origin) (k : ℕ) (o : Option Point) → added_in first last origin o ≡ Some k → Takes o first last origin k
takes first last origin k None e = absurd (none-some k e)
takes first last origin k (Some x) e =
    let o = used_out x.kind x.row k (is_inside first last x.row && not (is_some (origin x.row))) e in
    let both = and_out (is_inside first last x.row) (not (is_some (origin x.row))) o.2 in record {
      local = o.0;
      stands = ap (λ (z : PointKind). point x.row z) o.1 ∙ ap (λ n. point n (kind.Use o.0)) o.3;
      inside = subst (λ n. (first < n) × (n < last)) o.3 ((inside_tells first last x.row).0 both.0);
      added = subst (λ n. origin n ≡ None) o.3 (no_origin (origin x.row) both.1);
    }

given : (first last d local : ℕ) (o : Option Point) → o ≡ point d (kind.Definition local) → (first < d) × (d < last) → defined_in first last o ≡ Some d
given first last d local o e inside = ap (defined_in first last) e ∙ ap (λ b. some_if d b) ((inside_tells first last d).1 inside)

taken : (first last : ℕ) (origin : Origin) (k local : ℕ) (o : Option Point) → o ≡ point k (kind.Use local) → (first < k) × (k < last) → origin k ≡ None → added_in first last origin o ≡ Some k
taken first last origin k local o e inside added = ap (added_in first last origin) e
    ∙ ap (λ b. some_if k b) (and_true (is_inside first last k) (not (is_some (origin k))) ((inside_tells first last k).1 inside) (ap (λ z. not (is_some z)) added))

-- ---- in a flow

module _ {B : Type 0} (q : Rows) (g : Flow B) (body : ℕ) (points : List Point) (steps : StepList) (graph : IsGraph g body points steps) (call method : ℕ) (origin : Origin) where
  abbrev statement : ℕ
  statement = statement_round q call call

  pub assigned_out : (d : ℕ) → IsDefinedAt points statement (end q statement) d → IsAssigned q g call d
  assigned_out d a = let o = gives statement (end q statement) d (slice_get points a.number) a.defines in
      let place = place_of g body points steps graph a.number (record { row = d; kind = kind.Definition o.local }) o.stands refl in
      record { at = place.at; local = o.local; reached = place.reached; defines = place.stands; inside = o.inside }

  assigned_into : (d : ℕ) → IsAssigned q g call d → IsDefinedAt points statement (end q statement) d
  assigned_into d a = record {
    number = graph.number a.at;
    defines = given statement (end q statement) d a.local (slice_get points (graph.number a.at)) (graph.numbering.stands a.at (record { row = d; kind = kind.Definition a.local }) a.reached a.defines) a.inside;
  }

  pub returned_out : (k : ℕ) → IsAddedAt points method (end q method) origin k → IsReturned q g method origin k
  returned_out k a = let o = takes method (end q method) origin k (slice_get points a.number) a.uses in
      let place = place_of g body points steps graph a.number (record { row = k; kind = kind.Use o.local }) o.stands refl in
      record { at = place.at; local = o.local; reached = place.reached; uses = place.stands; inside = o.inside; added = o.added }

  pub returned_into : (k : ℕ) → IsReturned q g method origin k → IsAddedAt points method (end q method) origin k
  returned_into k a = record {
    number = graph.number a.at;
    uses = taken method (end q method) origin k a.local (slice_get points (graph.number a.at)) (graph.numbering.stands a.at (record { row = k; kind = kind.Use a.local }) a.reached a.uses) a.inside a.added;
  }

module _ {B : Type 0} (q : Rows) (g : Flow B) (body : ℕ) (points : List Point) (steps : StepList) (graph : IsGraph g body points steps) (handing : Handing) (call method : ℕ) (origin : Origin) (h : IsHandingOf handing q points call method origin) where
  -- by the rows of the crossing
  assigned_here : (d : ℕ) → IsAssignedIn h.crossing points d → IsAssigned q g call d
  assigned_here d a = assigned_out q g body points steps graph call method origin d (subst (λ n. IsDefinedAt points (statement_round q call call) n d) h.is.statement.1 (subst (λ n. IsDefinedAt points n h.crossing.statement.end d) h.is.statement.0 a))

  assigned_there : (d : ℕ) → IsAssigned q g call d → IsAssignedIn h.crossing points d
  assigned_there d a = subst (λ n. IsDefinedAt points n h.crossing.statement.end d) (sym h.is.statement.0) (subst (λ n. IsDefinedAt points (statement_round q call call) n d) (sym h.is.statement.1) (assigned_into q g body points steps graph call method origin d a))

  returned_there : (k : ℕ) → IsReturned q g method origin k → h.crossing.returned ≡ Some k
  returned_there k a = h.all.one k (subst (λ n. IsAddedAt points n h.crossing.method.end origin k) (sym h.is.inside.0) (subst (λ n. IsAddedAt points method n origin k) (sym h.is.inside.1) (returned_into q g body points steps graph call method origin k a)))

  hands_out : (d k : ℕ) → use_in handing d ≡ Some k → Hands q g call method origin d k
  hands_out d k e = ⊎_elim
      (λ p. Hands.argument p.place (ap (λ xs. slice_get xs p.place) (sym h.is.parameters) ∙ p.definition) (ap (λ xs. slice_get xs p.place) (sym h.is.arguments) ∙ p.used))
      (λ a. Hands.result (assigned_here d a.0) (returned_out q g body points steps graph call method origin k (subst (λ o. IfSome o (λ n. IsAddedAt points method (end q method) origin n)) a.1 h.is.returned)))
      (h.only d k e)

  hands_into : (d k : ℕ) → Hands q g call method origin d k → use_in handing d ≡ Some k
  hands_into d k (Hands.argument i e f) = h.all.pairs d k (record { place = i; definition = ap (λ xs. slice_get xs i) h.is.parameters ∙ e; used = ap (λ xs. slice_get xs i) h.is.arguments ∙ f })
  hands_into d k (Hands.result a r) = let one = h.all.assigned d (assigned_there d a) in one.second ∙ (sym one.first ∙ returned_there k r)

  pub hands_tell : (d k : ℕ) → (use_in handing d ≡ Some k → Hands q g call method origin d k) × (Hands q g call method origin d k → use_in handing d ≡ Some k)
  hands_tell d k = (hands_out d k, hands_into d k)

  handing_used : (d : ℕ) → IsHanding q g call method d → (k : ℕ) × (use_in handing d ≡ Some k)
  handing_used d (IsHanding.parameter i k e f) = (k, hands_into d k (Hands.argument i e f))
  handing_used d (IsHanding.assigned a) = let one = h.all.assigned d (assigned_there d a) in (one.row, one.second)

  is_handing : (d k : ℕ) → Hands q g call method origin d k → IsHanding q g call method d
  is_handing d k (Hands.argument i e f) = IsHanding.parameter i k e f
  is_handing d k (Hands.result a r) = IsHanding.assigned a

  pub own_tells : (d : ℕ) → (use_in handing d ≡ None → IsHanding q g call method d → ⊥) × ((IsHanding q g call method d → ⊥) → use_in handing d ≡ None)
  own_tells d = (λ none is. let used = handing_used d is in none-some used.0 (sym none ∙ used.1), λ apart. by apart (use_in handing d) refl)
    where
      by : (IsHanding q g call method d → ⊥) → (o : Option ℕ) → use_in handing d ≡ o → use_in handing d ≡ None
      by apart None e = e
      by apart (Some k) e = absurd (apart (is_handing d k (hands_out d k e)))
