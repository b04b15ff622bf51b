-- The acts of a row go to rows right below it, and act at these or at the row.
use Rattle.std.proofs.Common.{◌≡◌, ◌⊎◌, inl, inr, refl, sym, subst, arith, ℕ, zero, suc, ◌+◌, ◌-◌, ◌<◌, Bool, true, false, not, if◌then◌else◌, List, [], ◌∷◌, ◌++◌, map, flat_map, filter, length, Option, Some, None, nat_lt, slice_get}
use Rattle.std.specs.List.{AllByRecursion}
use Rattle.std.proofs.lemmas.Bool.{false≢true}
use Rattle.std.proofs.lemmas.Bool.Decides.{Decides-ltb}
use Rattle.jr_base.specs.declared.kind.Symbol.{Symbol}
use Rattle.jr_base.specs.declared.kind.Symbol.TheVariants as y
use Rattle.jr_tree.specs.declared.label.Label.{Label}
use Rattle.jr_tree.specs.declared.label.Label.TheVariants as is
use Rattle.jr_tree.specs.Rows.{Rows, label, parent, end}
use Rattle.jr_tree.specs.Tree.{IsTree}
use Rattle.jr_flow_defs.specs.Meaning.{Meaning, local_at, reads_field, is_only_written, operand, makes, shows_left, narrows}
use Rattle.jr_flow_defs.specs.Acts.{Act, part, event, node, define, go, jump, Acts, siblings, children, children_from, first, second, third, last, parts, event_if, fetched, name_acts, index_acts, written, assignment_acts, step_acts, guarded, two_ways, if_acts, binary_acts, for_first, for_start, for_condition, for_updates, for_test, for_acts, switch_acts, by_return, by_throw, break_target, continue_target, breaks, continues, is_parameter, is_catch, callable_acts, parameter_acts, local_acts, acts_by, acts}
use Rattle.jr_kept.specs.Waiting.{is_finally, HasRows, for_parts, parts_by, IsBelow, IsShaped}
use Rattle.jr_kept.proofs.Below.{all_filter, none_finally, first_free, Place, at_place, first_place, next_place, siblings_below, children_below, last_below}

-- the row n, or one right below it
abbrev pub IsAt : Rows → ℕ → ℕ → Type 0
IsAt p n k = (k ≡ n) ⊎ IsBelow p n k

-- a part is such a row, and what acts stands at the row n or right below it
abbrev pub ActAt : Rows → (ℕ → Type 0) → ℕ → Act → Type 0
ActAt p P n (part k) = P k
ActAt p P n (event k) = IsAt p n k
ActAt p P n (node k) = IsAt p n k
ActAt p P n _ = Unit {0}

abbrev pub IfAct : Rows → (ℕ → Type 0) → ℕ → Option Act → Type 0
IfAct p P n (Some a) = ActAt p P n a
IfAct p P n None = Unit {0}

pub act_at : (p : Rows) (P : ℕ → Type 0) (n : ℕ) (all : Acts) (i : ℕ) → AllByRecursion (ActAt p P n) all → IfAct p P n (slice_get all i)
act_at p P n [] i h = tt
act_at p P n (a ∷ all) zero h = h.0
act_at p P n (a ∷ all) (suc i) h = act_at p P n all i h.1

pub all_append : {A : Type 0} (P : A → Type 0) (xs ys : List A) → AllByRecursion P xs → AllByRecursion P ys → AllByRecursion P (xs ++ ys)
all_append P [] ys h k = k
all_append P (x ∷ xs) ys h k = (h.0, all_append P xs ys h.1 k)

pub all_either : {A : Type 0} (P : A → Type 0) (b : Bool) (xs ys : List A) → (b ≡ true → AllByRecursion P xs) → (b ≡ false → AllByRecursion P ys) → AllByRecursion P (if b then xs else ys)
all_either P true xs ys h k = h refl
all_either P false xs ys h k = k refl

module _ (p : Rows) (m : Meaning) (tree : IsTree p) (n : ℕ) (few : n < length p) (P : ℕ → Type 0) (own : (k : ℕ) → IsBelow p n k → P k) where
  abbrev Down : Acts → Type 0
  Down all = AllByRecursion (ActAt p P n) all

  here : IsAt p n n
  here = inl refl

  followed : (a b : Acts) → Down a → Down b → Down (a ++ b)
  followed a b h k = all_append (ActAt p P n) a b h k

  -- ---- parts

  each_part : (rows : List ℕ) → AllByRecursion (IsBelow p n) rows → Down (map part rows)
  each_part [] h = tt
  each_part (k ∷ rows) h = (own k h.0, each_part rows h.1)

  each_stored : (rows : List ℕ) → AllByRecursion (IsBelow p n) rows → Down (flat_map (λ k. part k ∷ event k ∷ []) rows)
  each_stored [] h = tt
  each_stored (k ∷ rows) h = (own k h.0, (inr h.0, each_stored rows h.1))

  below : AllByRecursion (IsBelow p n) (children p n)
  below = children_below p tree n few

  own_parts : Down (parts p n)
  own_parts = each_part (children p n) below

  kept_parts : (test : ℕ → Bool) → Down (map part (filter test (children p n)))
  kept_parts test = each_part (filter test (children p n)) (all_filter (IsBelow p n) test (children p n) below)

  -- ---- single acts

  event_down : (t : Bool) → Down (event_if t n)
  event_down true = (here, tt)
  event_down false = tt

  then_event : Down (parts p n ++ event n ∷ [])
  then_event = followed (parts p n) (event n ∷ []) own_parts (here, tt)

  then_node : Down (parts p n ++ node n ∷ [])
  then_node = followed (parts p n) (node n ∷ []) own_parts (here, tt)

  fetched_down : (o : Option ℕ) → Down (fetched p m n o)
  fetched_down (Some d) = (tt, tt)
  fetched_down None = event_down (reads_field p m n)

  written_down : (k : ℕ) (o : Option ℕ) → Down (written n k o)
  written_down k (Some d) = (tt, tt)
  written_down k None = (here, tt)

  unless : (t : Bool) (all : Acts) → Down all → Down (if t then [] else all)
  unless true all h = tt
  unless false all h = h

  -- ---- rows by their place

  one : HasRows p (n + 1) (end p n) 1 → IsBelow p n (n + 1)
  one h = at_place p tree n (n + 1) (first_place p tree n few) h.0

  behind_one : HasRows p (n + 1) (end p n) 1 → Place p tree n (end p (n + 1))
  behind_one h = next_place p tree n (n + 1) few (one h)

  two : HasRows p (n + 1) (end p n) 2 → IsBelow p n (end p (n + 1))
  two h = at_place p tree n (end p (n + 1)) (behind_one (h.0, tt)) h.1.0

  behind_two : HasRows p (n + 1) (end p n) 2 → Place p tree n (end p (end p (n + 1)))
  behind_two h = next_place p tree n (end p (n + 1)) few (two h)

  three : HasRows p (n + 1) (end p n) 3 → IsBelow p n (end p (end p (n + 1)))
  three h = at_place p tree n (end p (end p (n + 1))) (behind_two (h.0, (h.1.0, tt))) h.1.1.0

  -- ---- branches

  guarded_down : HasRows p (n + 1) (end p n) 2 → Down (guarded (first p n) (second p n))
  guarded_down h = (own (first p n) (one (h.0, tt)), (tt, (own (second p n) (two h), tt)))

  two_ways_down : (h : HasRows p (n + 1) (end p n) 2) → IsBelow p n (third p n) → Down (two_ways (first p n) (second p n) (third p n))
  two_ways_down h k = (own (first p n) (one (h.0, tt)), (tt, (own (second p n) (two h), (tt, (own (third p n) k, tt)))))

  if_down : HasRows p (n + 1) (end p n) 2 → Down (if_acts p n)
  if_down h = all_either (ActAt p P n) (nat_lt (third p n) (end p n)) (two_ways (first p n) (second p n) (third p n)) (guarded (first p n) (second p n))
      (λ e. two_ways_down h (at_place p tree n (third p n) (behind_two h) ((Decides-ltb (third p n) (end p n)).0 e))) (λ e. guarded_down h)

  plain_binary : (op : Symbol) → HasRows p (n + 1) (end p n) 2 → Down (part (first p n) ∷ event_if (shows_left p m n op) n ++ part (second p n) ∷ event_if (makes p m n op) n)
  plain_binary op h = followed (part (first p n) ∷ event_if (shows_left p m n op) n) (part (second p n) ∷ event_if (makes p m n op) n)
      (own (first p n) (one (h.0, tt)), event_down (shows_left p m n op)) (own (second p n) (two h), event_down (makes p m n op))

  binary_down : (op : Symbol) → HasRows p (n + 1) (end p n) 2 → Down (binary_acts p m n op)
  binary_down y.AndAnd h = guarded_down h
  binary_down y.OrOr h = guarded_down h
  binary_down op h = plain_binary op h

  -- ---- loops

  -- the parts of the header of a `for` are there, as far as it has them, and then the body
  record HasHeader (f c : Bool) : Type 0 where
    first_part : f ≡ true → IsBelow p n (n + 1)
    condition : c ≡ true → IsBelow p n (for_condition p n f)
    updates : Place p tree n (for_updates p (for_condition p n f) c)
    some : n + 1 < end p n

  header : (f c : Bool) → HasRows p (n + 1) (end p n) (for_parts f c) → HasHeader f c
  header true true h = record { first_part = λ e. one (h.0, tt); condition = λ e. two (h.0, (h.1.0, tt)); updates = behind_two (h.0, (h.1.0, tt)); some = h.0 }
  header true false h = record { first_part = λ e. one (h.0, tt); condition = λ e. absurd (false≢true e); updates = behind_one (h.0, tt); some = h.0 }
  header false true h = record { first_part = λ e. absurd (false≢true e); condition = λ e. one (h.0, tt); updates = behind_one (h.0, tt); some = h.0 }
  header false false h = record { first_part = λ e. absurd (false≢true e); condition = λ e. absurd (false≢true e); updates = first_place p tree n few; some = h.0 }

  for_first_down : (f : Bool) → (f ≡ true → IsBelow p n (n + 1)) → Down (for_first p n f)
  for_first_down true h = (own (n + 1) (h refl), tt)
  for_first_down false h = tt

  test_down : (k : ℕ) (c : Bool) → (c ≡ true → IsBelow p n k) → Down (for_test k c)
  test_down k true h = (own k (h refl), (tt, tt))
  test_down k false h = tt

  for_down : (f c : Bool) → HasHeader f c → Down (for_acts p n f c)
  for_down f c h =
      let condition = for_condition p n f in
      let updates = siblings p (end p n - n) (for_updates p condition c) (last p n) in
      let bottom = (last_below p tree n few h.some).below in
      let within = bottom.within in
      followed (for_first p n f ++ for_test condition c ++ part (last p n) ∷ [] ++ map part updates) (go (for_start f) ∷ [])
      (followed (for_first p n f ++ for_test condition c ++ part (last p n) ∷ []) (map part updates)
      (followed (for_first p n f ++ for_test condition c) (part (last p n) ∷ [])
      (followed (for_first p n f) (for_test condition c) (for_first_down f h.first_part) (test_down condition c h.condition))
      (own (last p n) bottom, tt))
      (each_part updates (siblings_below p tree n (end p n - n) (for_updates p condition c) (last p n) few h.updates (omega (arith, within)))))
      (tt, tt)

  -- ---- `switch`, declarations, and what makes arrays

  switch_down : HasRows p (n + 1) (end p n) 1 → Down (switch_acts p n)
  switch_down h = (own (first p n) (one h), (tt, each_part (children_from p n (second p n)) (siblings_below p tree n (end p n - n) (second p n) (end p n) few (behind_one h) (omega arith))))

  callable_down : Down (callable_acts p n)
  callable_down = followed (map part (filter (λ k. is_parameter (label p k)) (children p n))) (map part (filter (λ k. not (is_parameter (label p k))) (children p n)))
      (kept_parts (λ k. is_parameter (label p k))) (kept_parts (λ k. not (is_parameter (label p k))))

  parameter_down : Down (parameter_acts p n)
  parameter_down = followed (if is_catch (label p (parent p n)) then node n ∷ [] else []) (define n n ∷ [])
      (all_either (ActAt p P n) (is_catch (label p (parent p n))) (node n ∷ []) [] (λ e. (here, tt)) (λ e. tt)) (tt, tt)

  local_down : Down (local_acts p n)
  local_down = all_either (ActAt p P n) (nat_lt (n + 1) (end p n)) (parts p n ++ define n n ∷ []) [] (λ e. followed (parts p n) (define n n ∷ []) own_parts (tt, tt)) (λ e. tt)

  -- ---- names and what is assigned

  name_down : Down (name_acts p m n)
  name_down = followed (parts p n) (if is_only_written p n then [] else fetched p m n (local_at p m n)) own_parts (unless (is_only_written p n) (fetched p m n (local_at p m n)) (fetched_down (local_at p m n)))

  index_down : Down (index_acts p n)
  index_down = followed (parts p n) (if is_only_written p n then [] else event n ∷ []) own_parts (unless (is_only_written p n) (event n ∷ []) (here, tt))

  assignment_down : (op : Symbol) → Down (assignment_acts p m n op)
  assignment_down op = followed (parts p n ++ event_if (makes p m n op) n) (written n (operand p n) (local_at p m (operand p n)))
      (followed (parts p n) (event_if (makes p m n op) n) own_parts (event_down (makes p m n op))) (written_down (operand p n) (local_at p m (operand p n)))

  step_down : Down (step_acts p m n)
  step_down = followed (parts p n) (written n n (local_at p m (operand p n))) own_parts (written_down n (local_at p m (operand p n)))

  then_jump : (a : Act) → Down (a ∷ []) → Down (parts p n ++ a ∷ [])
  then_jump a h = followed (parts p n) (a ∷ []) own_parts h

  -- ---- all rows

  try_down : (b : Bool) → HasRows p (n + 1) (end p n) (parts_by (is.Try b)) → Down (part (first p n) ∷ [])
  try_down true h = (own (first p n) (one (h.0, tt)), tt)
  try_down false h = (own (first p n) (one h), tt)

  pub acts_by_down : (l : Label) → HasRows p (n + 1) (end p n) (parts_by l) → Down (acts_by l p m n)
  acts_by_down (is.Method modifiers is_void has_body) h = callable_down
  acts_by_down (is.Constructor modifiers) h = callable_down
  acts_by_down (is.Field modifiers dims) h = then_event
  acts_by_down (is.Parameter is_final dims) h = parameter_down
  acts_by_down (is.Local is_final dims) h = local_down
  acts_by_down is.Skip h = (here, tt)
  acts_by_down is.Eval h = then_node
  acts_by_down is.Locals h = then_node
  acts_by_down is.If h = if_down h
  acts_by_down is.While h = (own (first p n) (one (h.0, tt)), (tt, (own (second p n) (two h), (tt, tt))))
  acts_by_down is.Do h = (own (first p n) (one (h.0, tt)), (own (second p n) (two h), (tt, tt)))
  acts_by_down (is.For f c) h = for_down f c (header f c h)
  acts_by_down is.Switch h = switch_down h
  acts_by_down is.Case h = tt
  acts_by_down (is.Break b) h = then_jump (jump (breaks (break_target p m n b))) (tt, tt)
  acts_by_down (is.Continue b) h = then_jump (jump (continues (continue_target p m n b))) (tt, tt)
  acts_by_down is.Return h = then_jump (jump by_return) (tt, tt)
  acts_by_down is.Throw h = then_jump (jump by_throw) (tt, tt)
  acts_by_down (is.Try b) h = try_down b h
  acts_by_down (is.ConstructorCall which) h = then_event
  acts_by_down is.ImplicitCall h = (here, tt)
  acts_by_down (is.Call receiver) h = then_event
  acts_by_down is.New h = then_event
  acts_by_down (is.NewArray primitive zero extra) h = own_parts
  acts_by_down (is.NewArray primitive (suc lengths) extra) h = then_event
  acts_by_down is.List h = (here, each_stored (children p n) below)
  acts_by_down (is.Name kind place is_qualified) h = name_down
  acts_by_down is.Select h = name_down
  acts_by_down is.SuperSelect h = name_down
  acts_by_down is.Index h = index_down
  acts_by_down (is.Assign op) h = assignment_down op
  acts_by_down (is.PreStep op) h = step_down
  acts_by_down (is.PostStep op) h = step_down
  acts_by_down is.Conditional h = two_ways_down (h.0, (h.1.0, tt)) (three h)
  acts_by_down (is.Binary op) h = binary_down op h
  acts_by_down (is.Unary y.Not) h = then_node
  acts_by_down is.Cast h = followed (parts p n) (event_if (narrows p m n) n) own_parts (event_down (narrows p m n))
  acts_by_down (is.TypeUse primitive dims) h = tt
  acts_by_down _ h = own_parts

-- a part of a row: it stands right below, and is no block of `finally`
pub record IsPart (p : Rows) (n k : ℕ) : Type 0 where
  pub below : IsBelow p n k
  pub free : is_finally p k ≡ false

abbrev pub is_try : Label → Bool
is_try (is.Try true) = true
is_try _ = false

pub try_is : (l : Label) → is_try l ≡ true → l ≡ is.Try true
try_is (is.Try true) h = refl
try_is (is.Try false) h = absurd (false≢true h)
try_is _ h = absurd (false≢true h)

module _ (p : Rows) (m : Meaning) (tree : IsTree p) (n : ℕ) (few : n < length p) (shaped : IsShaped p n) where
  pub rows_of : (l : Label) → label p n ≡ l → HasRows p (n + 1) (end p n) (parts_by l)
  rows_of l e = subst (λ z. HasRows p (n + 1) (end p n) (parts_by z)) e shaped.parts

  pub no_try : is_try (label p n) ≡ false → label p n ≡ is.Try true → ⊥
  no_try e is = false≢true (sym (subst (λ l. is_try l ≡ false) is e))

  pub acts_down : AllByRecursion (ActAt p (IsPart p n) n) (acts p m n)
  acts_down = by (is_try (label p n)) refl
    where
      try_acts : label p n ≡ is.Try true → AllByRecursion (ActAt p (IsPart p n) n) (acts p m n)
      try_acts e = let h = rows_of (is.Try true) e in let b = at_place p tree n (n + 1) (first_place p tree n few) h.0 in
          subst (λ l. AllByRecursion (ActAt p (IsPart p n) n) (acts_by l p m n)) (sym e) (record { below = b; free = first_free p n (n + 1) b h.1.0 }, tt)

      by : (b : Bool) → is_try (label p n) ≡ b → AllByRecursion (ActAt p (IsPart p n) n) (acts p m n)
      by true e = try_acts (try_is (label p n) e)
      by false e = acts_by_down p m tree n few (IsPart p n) (λ k b. record { below = b; free = none_finally p n k (no_try e) b }) (label p n) shaped.parts
