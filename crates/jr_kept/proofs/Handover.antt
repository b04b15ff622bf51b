-- What the table of a call gets, and that it is whole where one table can tell what crosses.
use Rattle.std.proofs.Common.{◌≡◌, ⊎_elim, refl, sym, ◌∙◌, ap, subst, arith, ℕ, zero, suc, ◌+◌, ◌-◌, ◌<◌, ◌≤◌, Bool, true, false, cond, if◌then◌else◌, List, [], ◌∷◌, filter, length, Option, Some, None, IfNone, IfSome, nat_lt, slice_get}
use Rattle.std.specs.List.{AllByRecursion}
use Rattle.std.proofs.lemmas.Bool.{cases_lt}
use Rattle.std.proofs.lemmas.Option.{none-some, same_Some, slice_get_within}
use Rattle.jr_tree.specs.Rows.{Rows, label, end}
use Rattle.jr_tree.specs.Tree.{IsTree}
use Rattle.jr_change.specs.declared.change.RowRange.{RowRange}
use Rattle.jr_locks.specs.Origins.{no_row}
use Rattle.jr_flow_defs.specs.declared.point.Point.{Point}
use Rattle.jr_flow_defs.specs.Acts.{siblings, children, is_parameter}
use Rattle.jr_flow_defs.specs.Paths.{Flow}
use Rattle.jr_flow_defs.specs.Edges.{IsGraph}
use Rattle.jr_flow_defs.specs.Graphs.{StepList}
use Rattle.jr_flow_defs.specs.Kept.{Origin, parameters, statement_round, IsAssigned, IsReturned}
use Rattle.jr_kept.specs.declared.handing.Crossing.{Crossing}
use Rattle.jr_kept.specs.declared.handing.Handing.{Handing}
use Rattle.jr_kept.specs.Handed.{defined_in, IsDefinedAt, IsAddedAt, IsPaired, IsCrossing, IsAssignedIn, Spans, IsSpanned, PutsOne, ArePairedOnce, PutsPairs, PutsAssigned, IsWithin, IsRow, CrossesOnce, HandsOnce, HasCrossing}
use Rattle.jr_kept.specs.Waiting.{IsBelow}
use Rattle.jr_kept.proofs.Below.{all_filter, children_below}
use Rattle.jr_kept.proofs.Crossing.{assigned_out, returned_out, returned_into}

spanned_still : (old new : Handing) (d : ℕ) → new.first ≡ old.first → length new.uses.items ≡ length old.uses.items → IsSpanned old d → IsSpanned new d
spanned_still old new d first size s = let from = s.from in let to = s.to in record { from = omega (arith, first, from); to = omega (arith, first, size, to) }

pub puts_no_pair : (table : Handing) (definitions uses : List ℕ) → PutsPairs table table definitions uses 0
puts_no_pair table definitions uses = record { first = refl; size = refl; every = λ i d k lt. absurd (omega (arith, lt)) }

pub puts_more_pairs : (old mid new : Handing) (definitions uses : List ℕ) (place : ℕ) (one other : Option ℕ) → one ≡ slice_get definitions place → other ≡ slice_get uses place → ArePairedOnce definitions uses
    → PutsPairs old mid definitions uses place → PutsOne mid new one other → PutsPairs old new definitions uses (place + 1)
puts_more_pairs old mid new definitions uses place one other is other_is once h puts = record {
  first = puts.first ∙ h.first;
  size = puts.size ∙ h.size;
  every = λ i d k lt e f row span. ⊎_elim
      (λ less. puts.kept d k (h.every i d k less e f row span)
      (λ j g u. once d j k (record { place = place; definition = sym is ∙ g; used = sym other_is ∙ u }) (record { place = i; definition = e; used = f })))
      (λ past. let same : place ≡ i = omega (arith, lt, past) in
      puts.here d k (is ∙ ap (slice_get definitions) same ∙ e) (other_is ∙ ap (slice_get uses) same ∙ f) row (spanned_still old mid d h.first h.size span))
      (cases_lt i place);
}

pub puts_none_assigned : (table : Handing) (points : List Point) (low high : ℕ) (from : Option ℕ) → PutsAssigned table table points low high from 0
puts_none_assigned table points low high from = record { first = refl; size = refl; every = λ i d k lt. absurd (omega (arith, lt)); kept = λ d k e apart. e }

pub puts_more_assigned : (old mid new : Handing) (points : List Point) (low high number : ℕ) (one from : Option ℕ) → one ≡ defined_in low high (slice_get points number)
    → PutsAssigned old mid points low high from number → PutsOne mid new one from → PutsAssigned old new points low high from (number + 1)
puts_more_assigned old mid new points low high number one from is h puts = record {
  first = puts.first ∙ h.first;
  size = puts.size ∙ h.size;
  every = λ i d k lt e f row span. ⊎_elim
      (λ less. puts.kept d k (h.every i d k less e f row span) (λ j g u. same_Some j k (sym u ∙ f)))
      (λ past. let same : number ≡ i = omega (arith, lt, past) in
      puts.here d k (is ∙ ap (λ n. defined_in low high (slice_get points n)) same ∙ e) f row (spanned_still old mid d h.first h.size span))
      (cases_lt i number);
  kept = λ d k e apart. puts.kept d k (h.kept d k e apart) (λ j g u. absurd (apart (record { number = number; defines = sym is ∙ g })));
}

within_points : (points : List Point) (low high i d : ℕ) (o : Option Point) → slice_get points i ≡ o → defined_in low high o ≡ Some d → i < length points
within_points points low high i d None e f = absurd (none_is d f)
  where
    none_is : (n : ℕ) → None ≡ Some n → ⊥
    none_is n g = let h = g in cc
within_points points low high i d (Some x) e f = slice_get_within points i x e

pub has_crossing : (empty mid last : Handing) (span : RowRange) (crossing : Crossing) (points : List Point) (origin : Origin) → Spans empty span
    → PutsPairs empty mid crossing.parameters.items crossing.arguments.items (length crossing.parameters.items)
    → PutsAssigned mid last points crossing.statement.first crossing.statement.end crossing.returned (length points) → CrossesOnce span crossing points origin → HasCrossing last crossing points origin
has_crossing empty mid last span crossing points origin spans pairs assigned once = record {
  pairs = λ d k p. let told = once.parameters d k p in
      assigned.kept d k (pairs.every p.place d k (slice_get_within crossing.parameters.items p.place d p.definition) p.definition p.used told.1 (spanned d told.0)) (once.apart d k p);
  assigned = λ d a. let told = once.assigned d a in let k = told.1.0 in record {
    row = k;
    first = told.1.1;
    second = assigned.every a.number d k (within_points points crossing.statement.first crossing.statement.end a.number d (slice_get points a.number) refl a.defines) a.defines told.1.1 told.1.2 (spanned_still empty mid d pairs.first pairs.size (spanned d told.0));
  };
  one = once.one;
}
  where
    spanned : (d : ℕ) → IsWithin span d → IsSpanned empty d
    spanned d w = let first = spans.first in let size = spans.size in let from = w.from in let to = w.to in record { from = omega (arith, first, from); to = omega (arith, first, size, from, to) }

-- ---- by the rows of the call and the method

one_found : (o : Option ℕ) (P : ℕ → Type 0) → ((j k : ℕ) → P j → P k → j ≡ k) → IfSome o P → IfNone o ((k : ℕ) → P k → ⊥) → (k : ℕ) → P k → o ≡ Some k
one_found None P one some none k is = absurd (none k is)
one_found (Some n) P one some none k is = ap Some (one n k some is)

pub crosses_once : (span : RowRange) (crossing : Crossing) (q : Rows) (points : List Point) (call method : ℕ) (origin : Origin) → IsCrossing crossing q points call method origin
    → IfNone crossing.returned ((k : ℕ) → IsAddedAt points method (end q method) origin k → ⊥) → HandsOnce span q points call method origin → CrossesOnce span crossing points origin
crosses_once span crossing q points call method origin is none hands = record {
  once = λ d j k a b. hands.once d j k (paired d j a) (paired d k b);
  parameters = λ d k a. hands.pairs d k (paired d k a);
  assigned = λ d a. let told = hands.assigned d (defined d a) in let k = told.1.0 in (told.0, (k, returned k told.1.1, hands.rows k told.1.1));
  apart = λ d k a b. hands.apart d k (paired d k a) (defined d b);
  one = λ k a. returned k (added k a);
}
  where
    paired : (d k : ℕ) → IsPaired crossing.parameters.items crossing.arguments.items d k → IsPaired (parameters q method) (children q call) d k
    paired d k a = subst (λ xs. IsPaired xs (children q call) d k) is.parameters (subst (λ xs. IsPaired crossing.parameters.items xs d k) is.arguments a)

    defined : (d : ℕ) → IsAssignedIn crossing points d → IsDefinedAt points (statement_round q call call) (end q (statement_round q call call)) d
    defined d a = subst (λ n. IsDefinedAt points n (end q (statement_round q call call)) d) is.statement.0 (subst (λ n. IsDefinedAt points crossing.statement.first n d) is.statement.1 a)

    added : (k : ℕ) → IsAddedAt points crossing.method.first crossing.method.end origin k → IsAddedAt points method (end q method) origin k
    added k a = subst (λ n. IsAddedAt points n (end q method) origin k) is.inside.0 (subst (λ n. IsAddedAt points crossing.method.first n origin k) is.inside.1 a)

    returned : (k : ℕ) → IsAddedAt points method (end q method) origin k → crossing.returned ≡ Some k
    returned k a = one_found crossing.returned (λ n. IsAddedAt points method (end q method) origin n) hands.one is.returned none k a

-- ---- rows that rise

abbrev IsRising : ℕ → List ℕ → Type 0
IsRising low [] = Unit {0}
IsRising low (x ∷ xs) = (low ≤ x) × IsRising (suc x) xs

rises_from : (low high : ℕ) (xs : List ℕ) → low ≤ high → IsRising high xs → IsRising low xs
rises_from low high [] le h = tt
rises_from low high (x ∷ xs) le h = let first = h.0 in (omega (arith, le, first), h.1)

siblings_rise : (q : Rows) → ((n : ℕ) → n < end q n) → (room k stop : ℕ) → IsRising k (siblings q room k stop)
siblings_rise q nested zero k stop = tt
siblings_rise q nested (suc room) k stop = by (nat_lt k stop) (siblings_rise q nested room (end q k) stop)
  where
    by : (b : Bool) → IsRising (end q k) (siblings q room (end q k) stop) → IsRising k (if b then k ∷ siblings q room (end q k) stop else [])
    by true rest = let lt = nested k in (omega arith, rises_from (suc k) (end q k) (siblings q room (end q k) stop) (omega (arith, lt)) rest)
    by false rest = tt

filter_rises : (test : ℕ → Bool) (low : ℕ) (xs : List ℕ) → IsRising low xs → IsRising low (filter test xs)
filter_rises test low [] h = tt
filter_rises test low (x ∷ xs) h = by (test x) (filter_rises test (suc x) xs h.1)
  where
    by : (b : Bool) → IsRising (suc x) (filter test xs) → IsRising low (cond b (x ∷ filter test xs) (filter test xs))
    by true rest = (h.0, rest)
    by false rest = let first = h.0 in rises_from low (suc x) (filter test xs) (omega (arith, first)) rest

rising_least : (low : ℕ) (xs : List ℕ) (i d : ℕ) → IsRising low xs → slice_get xs i ≡ Some d → low ≤ d
rising_least low [] i d h e = absurd (none-some d e)
rising_least low (x ∷ xs) zero d h e = let first = h.0 in let same = same_Some x d e in omega (arith, first, same)
rising_least low (x ∷ xs) (suc i) d h e = let first = h.0 in let more = rising_least (suc x) xs i d h.1 e in omega (arith, first, more)

rising_apart : (low : ℕ) (xs : List ℕ) (i j d : ℕ) → IsRising low xs → slice_get xs i ≡ Some d → slice_get xs j ≡ Some d → i ≡ j
rising_apart low [] i j d h e f = absurd (none-some d e)
rising_apart low (x ∷ xs) zero zero d h e f = refl
rising_apart low (x ∷ xs) zero (suc j) d h e f = let same = same_Some x d e in let less = rising_least (suc x) xs j d h.1 f in absurd (omega (arith, same, less))
rising_apart low (x ∷ xs) (suc i) zero d h e f = let same = same_Some x d f in let less = rising_least (suc x) xs i d h.1 e in absurd (omega (arith, same, less))
rising_apart low (x ∷ xs) (suc i) (suc j) d h e f = ap suc (rising_apart (suc x) xs i j d h.1 e f)

each_at : (P : ℕ → Type 0) (xs : List ℕ) (i d : ℕ) → AllByRecursion P xs → slice_get xs i ≡ Some d → P d
each_at P [] i d h e = absurd (none-some d e)
each_at P (x ∷ xs) zero d h e = subst P (same_Some x d e) h.0
each_at P (x ∷ xs) (suc i) d h e = each_at P xs i d h.1 e

-- ---- in a flow

module _ {B : Type 0} (q : Rows) (g : Flow B) (body : ℕ) (points : List Point) (steps : StepList) (graph : IsGraph g body points steps) (call method : ℕ) (origin : Origin)
    (tree : IsTree q) (few : length q < no_row) (is_body : body < length q) (is_method : method < length q) (from : body ≤ call) (to : call < end q body) where
  abbrev statement : ℕ
  statement = statement_round q call call

  is_call : call < length q
  is_call = let last = tree.last body is_body in omega (arith, to, last)

  inside_few : (n k : ℕ) → n < length q → k < end q n → IsRow k
  inside_few n k lt less e = let last = tree.last n lt in absurd (omega (arith, last, less, e, few))

  parameter_at : (i d : ℕ) → slice_get (parameters q method) i ≡ Some d → IsBelow q method d
  parameter_at i d e = each_at (IsBelow q method) (parameters q method) i d (all_filter (IsBelow q method) (λ k. is_parameter (label q k)) (children q method) (children_below q tree method is_method)) e

  argument_at : (i k : ℕ) → slice_get (children q call) i ≡ Some k → IsBelow q call k
  argument_at i k e = each_at (IsBelow q call) (children q call) i k (children_below q tree call is_call) e

  paired_once : ArePairedOnce (parameters q method) (children q call)
  paired_once d j k a b = same_Some j k (sym a.used ∙ ap (slice_get (children q call)) same ∙ b.used)
    where
      same : a.place ≡ b.place
      same = rising_apart (method + 1) (parameters q method) a.place b.place d
          (filter_rises (λ n. is_parameter (label q n)) (method + 1) (children q method) (siblings_rise q tree.nested (end q method - method) (method + 1) (end q method))) a.definition b.definition

  pub hands_once : (span : RowRange) → (span.first ≤ body) × (end q body ≤ span.end) → (span.first ≤ method) × (end q method ≤ span.end) → body < statement → statement ≤ call
      → ((i d : ℕ) → slice_get (parameters q method) i ≡ Some d → statement < d → d < end q statement → ⊥)
      → ((d : ℕ) → IsAssigned q g call d → (k : ℕ) × IsReturned q g method origin k) → ((j k : ℕ) → IsReturned q g method origin j → IsReturned q g method origin k → j ≡ k)
      → HandsOnce span q points call method origin
  hands_once span outer inner behind before apart returned one = record {
    once = paired_once;
    pairs = λ d k a. (parameter_within d (parameter_at a.place d a.definition), let b = argument_at a.place k a.used in inside_few call k is_call b.within);
    assigned = λ d a. let is = assigned_out q g body points steps graph call method origin d a in let r = returned d is in (assigned_within d is.inside, (r.0, returned_into q g body points steps graph call method origin r.0 r.1));
    apart = λ d k p a. let is = assigned_out q g body points steps graph call method origin d a in apart p.place d p.definition is.inside.0 is.inside.1;
    one = λ j k a b. one j k (returned_out q g body points steps graph call method origin j a) (returned_out q g body points steps graph call method origin k b);
    rows = λ k a. let r = returned_out q g body points steps graph call method origin k a in inside_few method k is_method r.inside.1;
  }
    where
      parameter_within : (d : ℕ) → IsBelow q method d → IsWithin span d
      parameter_within d b = let low = inner.0 in let high = inner.1 in let after = b.behind in let less = b.within in record { from = omega (arith, low, after); to = omega (arith, high, less) }

      assigned_within : (d : ℕ) → (statement < d) × (d < end q statement) → IsWithin span d
      assigned_within d is = let low = outer.0 in let high = outer.1 in let after = is.0 in let less = is.1 in
          let ends = tree.apart body statement behind (omega (arith, before, to)) in record { from = omega (arith, low, after, behind); to = omega (arith, high, less, ends) }
