-- Control stays in a body whose rows are structured, with nothing pending.
use Rattle.std.proofs.Common.{◌≡◌, refl, sym, ◌∙◌, subst, ⊎_elim, arith, ℕ, zero, suc, ◌+◌, ◌-◌, ◌<◌, ◌≤◌, Bool, true, false, not, ◌&&◌, cond, if◌then◌else◌, List, [], ◌∷◌, ◌++◌, map, flat_map, filter, length, Option, Some, None, nat_eq, nat_lt, Decides, slice_get}
use Rattle.std.specs.List.{AllByRecursion, Contains}
use Rattle.std.proofs.lemmas.Bool.{false≢true, cases_lt}
use Rattle.std.proofs.lemmas.Bool.Decides.{Decides-eqb, Decides-ltb}
use Rattle.jr_base.specs.declared.kind.Symbol.{Symbol}
use Rattle.jr_base.specs.declared.kind.Symbol.TheVariants as y
use Rattle.jr_tree.specs.declared.label.Label.{Label}
use Rattle.jr_tree.specs.declared.label.Label.TheVariants as is
use Rattle.jr_tree.specs.Rows.{Rows, label, parent, end}
use Rattle.jr_tree.specs.Tree.{IsTree}
use Rattle.jr_flow_defs.specs.Meaning.{Meaning, local_at, reads_field, is_only_written, operand, makes, shows_left, narrows}
use Rattle.jr_flow_defs.specs.Acts.{Completion, normally, by_break, by_continue, by_return, by_throw, Act, part, event, node, define, use_of, quit, fork, choose, go, jump, Acts, siblings, children, children_from, first, second, third, last_or, last, parts, event_if, fetched, name_acts, index_acts, written, assignment_acts, step_acts, guarded, two_ways, if_acts, binary_acts, for_first, for_start, for_condition, for_updates, for_test, for_acts, switch_acts, breaks, continues, break_target, continue_target, is_parameter, is_catch, callable_acts, parameter_acts, local_acts, list_acts, acts_by, acts, next_turn}
use Rattle.jr_flow_defs.specs.States.{Moment, before, completed, State, Hop, at, left, plainly, completing, all_at, act_hops, behind, part_left, catches, body_left, try_left, left_by, as_left, ending, hops_by, hops}
use Rattle.jr_flow_defs.specs.Paths.{IsReached}
use Rattle.jr_flow_defs.specs.Edges.{body_flow}
use Rattle.jr_flow_defs.proofs.Searched.{contains_out}
use Rattle.jr_flow.specs.Bodies.{has_code_by, has_code}
use Rattle.jr_flow.specs.Sizes.{farthest_by, is_try_with_finally, is_structured, most_by}

all_joined : {A : Type 0} (P : A → Type 0) (xs ys : List A) → AllByRecursion P xs → AllByRecursion P ys → AllByRecursion P (xs ++ ys)
all_joined P [] ys h k = k
all_joined P (x ∷ xs) ys h k = (h.0, all_joined P xs ys h.1 k)

one_of_all : {A : Type 0} (P : A → Type 0) (xs : List A) (a : A) → AllByRecursion P xs → Contains xs a → P a
one_of_all P [] a h c = absurd (omega (arith, c.1))
one_of_all P (x ∷ xs) a h c = ⊎_elim (λ e. subst P e h.0) (λ more. one_of_all P xs a h.1 more) (contains_out x xs a c)

all_filtered : (P : ℕ → Type 0) (test : ℕ → Bool) (rows : List ℕ) → AllByRecursion P rows → AllByRecursion P (filter test rows)
all_filtered P test [] h = tt
all_filtered P test (k ∷ rows) h = by (test k) (all_filtered P test rows h.1)
  where
    by : (b : Bool) → AllByRecursion P (filter test rows) → AllByRecursion P (cond b (k ∷ filter test rows) (filter test rows))
    by true more = (h.0, more)
    by false more = more

-- ---- the acts of a row

-- how many of them are points
abbrev pub count_acts : Acts → ℕ
count_acts [] = 0
count_acts (part k ∷ all) = count_acts all
count_acts (go j ∷ all) = count_acts all
count_acts (_ ∷ all) = suc (count_acts all)

-- a part is such a row, and where there is a jump, the row is no declaration with code
abbrev pub IsActIn : (ℕ → Type 0) → Bool → Act → Type 0
IsActIn P has (part k) = P k
IsActIn P has (jump c) = has ≡ false
IsActIn P has _ = Unit {0}

abbrev pub IfActIn : (ℕ → Type 0) → Bool → Option Act → Type 0
IfActIn P has (Some a) = IsActIn P has a
IfActIn P has None = Unit {0}

pub act_in : (P : ℕ → Type 0) (has : Bool) (all : Acts) (i : ℕ) → AllByRecursion (IsActIn P has) all → IfActIn P has (slice_get all i)
act_in P has [] i h = tt
act_in P has (a ∷ all) zero h = h.0
act_in P has (a ∷ all) (suc i) h = act_in P has all i h.1

pub record AreFewActs (P : ℕ → Type 0) (has : Bool) (most : ℕ) (all : Acts) : Type 0 where
  pub within : AllByRecursion (IsActIn P has) all
  pub few : count_acts all ≤ most

next_count : (a : Act) (all : Acts) → count_acts (a ∷ all) ≡ count_acts (a ∷ []) + count_acts all
next_count (part k) all = omega arith
next_count (event k) all = omega arith
next_count (node k) all = omega arith
next_count (define k d) all = omega arith
next_count (use_of k d) all = omega arith
next_count quit all = omega arith
next_count (fork j) all = omega arith
next_count (choose b) all = omega arith
next_count (go j) all = omega arith
next_count (jump c) all = omega arith

count_joined : (a b : Acts) → count_acts (a ++ b) ≡ count_acts a + count_acts b
count_joined [] b = omega arith
count_joined (x ∷ a) b = let e = next_count x (a ++ b) in let f = next_count x a in let more = count_joined a b in omega (arith, e, f, more)

few_siblings : (p : Rows) (room k stop : ℕ) → length (siblings p room k stop) ≤ room
few_siblings p zero k stop = omega arith
few_siblings p (suc room) k stop = by (nat_lt k stop) (few_siblings p room (end p k) stop)
  where
    by : (b : Bool) → length (siblings p room (end p k) stop) ≤ room → length (if b then k ∷ siblings p room (end p k) stop else []) ≤ suc room
    by true le = omega (arith, le)
    by false le = omega arith

-- ---- rows below a row

module _ (p : Rows) (tree : IsTree p) (n : ℕ) (P : ℕ → Type 0) (own : (k : ℕ) → n ≤ k → k < end p n → P k) where
  siblings_in : (room k stop : ℕ) → n ≤ k → stop ≤ end p n → AllByRecursion P (siblings p room k stop)
  siblings_in zero k stop low high = tt
  siblings_in (suc room) k stop low high = by (nat_lt k stop) (Decides-ltb k stop) (let up = tree.nested k in siblings_in room (end p k) stop (omega (arith, up, low)) high)
    where
      by : (b : Bool) → Decides b (k < stop) → AllByRecursion P (siblings p room (end p k) stop) → AllByRecursion P (if b then k ∷ siblings p room (end p k) stop else [])
      by true d rest = (own k low (let less = d.0 refl in omega (arith, less, high)), rest)
      by false d rest = tt

  children_in : AllByRecursion P (children p n)
  children_in = siblings_in (end p n - n) (n + 1) (end p n) (omega arith) (omega arith)

  last_of_in : (k : ℕ) (rows : List ℕ) → P k → AllByRecursion P rows → P (last_or k rows)
  last_of_in k [] h all = h
  last_of_in k (j ∷ rows) h all = last_of_in j rows all.0 all.1

  itself : P n
  itself = own n (omega arith) (tree.nested n)

  last_in : P (last p n)
  last_in = last_of_in n (children p n) itself children_in

-- ---- what each row does

module _ (p : Rows) (m : Meaning) (tree : IsTree p) (n : ℕ) (P : ℕ → Type 0) (own : (k : ℕ) → n ≤ k → k < end p n → P k) where
  module _ (has : Bool) where
    abbrev AreFew : ℕ → Acts → Type 0
    AreFew most all = AreFewActs P has most all

    joined : (i j most : ℕ) (a b : Acts) → i + j ≤ most → AreFew i a → AreFew j b → AreFew most (a ++ b)
    joined i j most a b le h k = record {
      within = all_joined (IsActIn P has) a b h.within k.within;
      few = let e = count_joined a b in let f = h.few in let g = k.few in omega (arith, le, e, f, g);
    }

    wider : (i most : ℕ) (a : Acts) → i ≤ most → AreFew i a → AreFew most a
    wider i most a le h = record { within = h.within; few = let f = h.few in omega (arith, f, le) }

    either : (b : Bool) (most : ℕ) (x y : Acts) → (b ≡ true → AreFew most x) → (b ≡ false → AreFew most y) → AreFew most (if b then x else y)
    either true most x y h k = h refl
    either false most x y h k = k refl

    no_acts : (most : ℕ) → AreFew most []
    no_acts most = record { within = tt; few = omega arith }

    one_event : (k : ℕ) → AreFew 1 (event k ∷ [])
    one_event k = record { within = (tt, tt); few = omega arith }

    one_node : (k : ℕ) → AreFew 1 (node k ∷ [])
    one_node k = record { within = (tt, tt); few = omega arith }

    one_definition : (k d : ℕ) → AreFew 1 (define k d ∷ [])
    one_definition k d = record { within = (tt, tt); few = omega arith }

    one_part : (k : ℕ) → P k → AreFew 0 (part k ∷ [])
    one_part k h = record { within = (h, tt); few = omega arith }

    event_fits : (t : Bool) (k : ℕ) → AreFew 1 (event_if t k)
    event_fits true k = one_event k
    event_fits false k = no_acts 1

    -- ---- parts

    each_part : (rows : List ℕ) → AllByRecursion P rows → AreFew 0 (map part rows)
    each_part [] h = no_acts 0
    each_part (k ∷ rows) h = let more = each_part rows h.1 in record { within = (h.0, more.within); few = more.few }

    own_parts : AreFew 0 (parts p n)
    own_parts = each_part (children p n) (children_in p tree n P own)

    just_parts : AreFew 2 (parts p n)
    just_parts = wider 0 2 (parts p n) (omega arith) own_parts

    kept_parts : (test : ℕ → Bool) → AreFew 0 (map part (filter test (children p n)))
    kept_parts test = each_part (filter test (children p n)) (all_filtered P test (children p n) (children_in p tree n P own))

    then_acts : (most : ℕ) (a : Acts) → AreFew most a → AreFew most (parts p n ++ a)
    then_acts most a h = joined 0 most most (parts p n) a (omega arith) own_parts h

    stored : (rows : List ℕ) → AllByRecursion P rows → AreFew (length rows) (flat_map (λ k. part k ∷ event k ∷ []) rows)
    stored [] h = no_acts 0
    stored (k ∷ rows) h = let more = stored rows h.1 in let few = more.few in record { within = (h.0, (tt, more.within)); few = omega (arith, few) }

    -- ---- names, and what is assigned

    fetched_fits : (o : Option ℕ) → AreFew 1 (fetched p m n o)
    fetched_fits (Some d) = record { within = (tt, tt); few = omega arith }
    fetched_fits None = event_fits (reads_field p m n) n

    written_fits : (k : ℕ) (o : Option ℕ) → AreFew 1 (written n k o)
    written_fits k (Some d) = one_definition k d
    written_fits k None = one_event n

    name_fits : AreFew 2 (name_acts p m n)
    name_fits = then_acts 2 (if is_only_written p n then [] else fetched p m n (local_at p m n))
        (either (is_only_written p n) 2 [] (fetched p m n (local_at p m n)) (λ e. no_acts 2) (λ e. wider 1 2 (fetched p m n (local_at p m n)) (omega arith) (fetched_fits (local_at p m n))))

    index_fits : AreFew 2 (index_acts p n)
    index_fits = then_acts 2 (if is_only_written p n then [] else event n ∷ []) (either (is_only_written p n) 2 [] (event n ∷ []) (λ e. no_acts 2) (λ e. wider 1 2 (event n ∷ []) (omega arith) (one_event n)))

    assignment_fits : (op : Symbol) → AreFew 2 (assignment_acts p m n op)
    assignment_fits op = joined 1 1 2 (parts p n ++ event_if (makes p m n op) n) (written n (operand p n) (local_at p m (operand p n))) (omega arith)
        (then_acts 1 (event_if (makes p m n op) n) (event_fits (makes p m n op) n)) (written_fits (operand p n) (local_at p m (operand p n)))

    step_fits : AreFew 2 (step_acts p m n)
    step_fits = then_acts 2 (written n n (local_at p m (operand p n))) (wider 1 2 (written n n (local_at p m (operand p n))) (omega arith) (written_fits n (local_at p m (operand p n))))

    -- ---- declarations, and what makes arrays

    callable_fits : AreFew 2 (callable_acts p n)
    callable_fits = joined 0 0 2 (map part (filter (λ k. is_parameter (label p k)) (children p n))) (map part (filter (λ k. not (is_parameter (label p k))) (children p n))) (omega arith)
        (kept_parts (λ k. is_parameter (label p k))) (kept_parts (λ k. not (is_parameter (label p k))))

    parameter_fits : AreFew 2 (parameter_acts p n)
    parameter_fits = joined 1 1 2 (if is_catch (label p (parent p n)) then node n ∷ [] else []) (define n n ∷ []) (omega arith)
        (either (is_catch (label p (parent p n))) 1 (node n ∷ []) [] (λ e. one_node n) (λ e. no_acts 1)) (one_definition n n)

    local_fits : AreFew 2 (local_acts p n)
    local_fits = either (nat_lt (n + 1) (end p n)) 2 (parts p n ++ define n n ∷ []) [] (λ e. then_acts 2 (define n n ∷ []) (wider 1 2 (define n n ∷ []) (omega arith) (one_definition n n))) (λ e. no_acts 2)

    list_fits : AreFew (end p n - n + 1) (list_acts p n)
    list_fits = joined 1 (length (children p n)) (end p n - n + 1) (event n ∷ []) (flat_map (λ k. part k ∷ event k ∷ []) (children p n))
        (let le = few_siblings p (end p n - n) (n + 1) (end p n) in omega (arith, le)) (one_event n) (stored (children p n) (children_in p tree n P own))

    then_event : AreFew 2 (parts p n ++ event n ∷ [])
    then_event = then_acts 2 (event n ∷ []) (wider 1 2 (event n ∷ []) (omega arith) (one_event n))

    then_node : AreFew 2 (parts p n ++ node n ∷ [])
    then_node = then_acts 2 (node n ∷ []) (wider 1 2 (node n ∷ []) (omega arith) (one_node n))

    then_jump : (c : Completion) → has ≡ false → AreFew 2 (parts p n ++ jump c ∷ [])
    then_jump c h = then_acts 2 (jump c ∷ []) (record { within = (h, tt); few = omega arith })

    -- ---- rows by their place

    first_in : n + 1 < end p n → P (first p n)
    first_in lt = own (n + 1) (omega arith) lt

    second_in : end p (n + 1) < end p n → P (second p n)
    second_in lt = let up = tree.nested (n + 1) in own (end p (n + 1)) (omega (arith, up)) lt

    first_too : end p (n + 1) < end p n → P (first p n)
    first_too lt = let up = tree.nested (n + 1) in first_in (omega (arith, up, lt))

    third_in : end p (end p (n + 1)) < end p n → P (third p n)
    third_in lt = let up = tree.nested (n + 1) in let over = tree.nested (end p (n + 1)) in own (end p (end p (n + 1))) (omega (arith, up, over)) lt

    second_too : end p (end p (n + 1)) < end p n → end p (n + 1) < end p n
    second_too lt = let over = tree.nested (end p (n + 1)) in omega (arith, over, lt)

    guarded_fits : end p (n + 1) < end p n → AreFew 2 (guarded (first p n) (second p n))
    guarded_fits lt = record { within = (first_too lt, (tt, (second_in lt, tt))); few = omega arith }

    two_ways_fits : end p (end p (n + 1)) < end p n → AreFew 2 (two_ways (first p n) (second p n) (third p n))
    two_ways_fits lt = let less = second_too lt in record { within = (first_too less, (tt, (second_in less, (tt, (third_in lt, tt))))); few = omega arith }

    if_fits : end p (n + 1) < end p n → AreFew 2 (if_acts p n)
    if_fits lt = either (nat_lt (third p n) (end p n)) 2 (two_ways (first p n) (second p n) (third p n)) (guarded (first p n) (second p n)) (λ e. two_ways_fits ((Decides-ltb (third p n) (end p n)).0 e)) (λ e. guarded_fits lt)

    plain_binary : (op : Symbol) → end p (n + 1) < end p n → AreFew 2 (part (first p n) ∷ event_if (shows_left p m n op) n ++ part (second p n) ∷ event_if (makes p m n op) n)
    plain_binary op lt = joined 1 1 2 (part (first p n) ∷ event_if (shows_left p m n op) n) (part (second p n) ∷ event_if (makes p m n op) n) (omega arith)
        (joined 0 1 1 (part (first p n) ∷ []) (event_if (shows_left p m n op) n) (omega arith) (one_part (first p n) (first_too lt)) (event_fits (shows_left p m n op) n))
        (joined 0 1 1 (part (second p n) ∷ []) (event_if (makes p m n op) n) (omega arith) (one_part (second p n) (second_in lt)) (event_fits (makes p m n op) n))

    binary_fits : (op : Symbol) → end p (n + 1) < end p n → AreFew 2 (binary_acts p m n op)
    binary_fits y.AndAnd lt = guarded_fits lt
    binary_fits y.OrOr lt = guarded_fits lt
    binary_fits op lt = plain_binary op lt

    while_fits : end p (n + 1) < end p n → AreFew 2 (part (first p n) ∷ quit ∷ part (second p n) ∷ go 0 ∷ [])
    while_fits lt = record { within = (first_too lt, (tt, (second_in lt, (tt, tt)))); few = omega arith }

    do_fits : end p (n + 1) < end p n → AreFew 2 (part (first p n) ∷ part (second p n) ∷ fork 0 ∷ [])
    do_fits lt = record { within = (first_too lt, (second_in lt, (tt, tt))); few = omega arith }

    -- ---- `for` and `switch`

    for_first_fits : (f : Bool) → (f ≡ true → P (first p n)) → AreFew 0 (for_first p n f)
    for_first_fits true h = one_part (first p n) (h refl)
    for_first_fits false h = no_acts 0

    for_test_fits : (k : ℕ) (c : Bool) → (c ≡ true → P k) → AreFew 1 (for_test k c)
    for_test_fits k true h = record { within = (h refl, (tt, tt)); few = omega arith }
    for_test_fits k false h = no_acts 1

    record HasHeader (f c : Bool) : Type 0 where
      start : f ≡ true → P (first p n)
      condition : c ≡ true → P (for_condition p n f)
      updates : n ≤ for_updates p (for_condition p n f) c

    header : (f c : Bool) → (if f && c then second p n else first p n) < end p n → HasHeader f c
    header true true lt = let up = tree.nested (n + 1) in let over = tree.nested (end p (n + 1)) in record { start = λ e. first_too lt; condition = λ e. second_in lt; updates = omega (arith, up, over) }
    header true false lt = let up = tree.nested (n + 1) in record { start = λ e. first_in lt; condition = λ e. absurd (false≢true e); updates = omega (arith, up) }
    header false true lt = let up = tree.nested (n + 1) in record { start = λ e. absurd (false≢true e); condition = λ e. first_in lt; updates = omega (arith, up) }
    header false false lt = record { start = λ e. absurd (false≢true e); condition = λ e. absurd (false≢true e); updates = omega arith }

    last_below : last p n ≤ end p n
    last_below = last_in p tree n (λ k. k ≤ end p n) (λ k low high. omega (arith, high))

    for_fits : (f c : Bool) → HasHeader f c → AreFew 2 (for_acts p n f c)
    for_fits f c h =
        let condition = for_condition p n f in
        let updates = siblings p (end p n - n) (for_updates p condition c) (last p n) in
        joined 1 0 2 (for_first p n f ++ for_test condition c ++ part (last p n) ∷ [] ++ map part updates) (go (for_start f) ∷ []) (omega arith)
        (joined 1 0 1 (for_first p n f ++ for_test condition c ++ part (last p n) ∷ []) (map part updates) (omega arith)
        (joined 1 0 1 (for_first p n f ++ for_test condition c) (part (last p n) ∷ []) (omega arith)
        (joined 0 1 1 (for_first p n f) (for_test condition c) (omega arith) (for_first_fits f h.start) (for_test_fits condition c h.condition))
        (one_part (last p n) (last_in p tree n P own)))
        (each_part updates (siblings_in p tree n P own (end p n - n) (for_updates p condition c) (last p n) h.updates last_below)))
        (record { within = (tt, tt); few = omega arith })

    switch_fits : n + 1 < end p n → AreFew 2 (switch_acts p n)
    switch_fits lt = let groups = children_from p n (second p n) in let up = tree.nested (n + 1) in
        let more = each_part groups (siblings_in p tree n P own (end p n - n) (second p n) (end p n) (omega (arith, up)) (omega arith)) in let few = more.few in
        record { within = (first_in lt, (tt, more.within)); few = omega (arith, few) }

    pub acts_fit : (l : Label) → has ≡ has_code_by l p n → farthest_by l p n < end p n → AreFew (most_by l p n) (acts_by l p m n)
    acts_fit (is.Method modifiers is_void has_body) e lt = callable_fits
    acts_fit (is.Constructor modifiers) e lt = callable_fits
    acts_fit (is.Field modifiers dims) e lt = then_event
    acts_fit (is.Parameter is_final dims) e lt = parameter_fits
    acts_fit (is.Local is_final dims) e lt = local_fits
    acts_fit is.Skip e lt = wider 1 2 (node n ∷ []) (omega arith) (one_node n)
    acts_fit is.Eval e lt = then_node
    acts_fit is.Locals e lt = then_node
    acts_fit is.If e lt = if_fits lt
    acts_fit is.While e lt = while_fits lt
    acts_fit is.Do e lt = do_fits lt
    acts_fit (is.For f c) e lt = for_fits f c (header f c lt)
    acts_fit is.Switch e lt = switch_fits lt
    acts_fit is.Case e lt = no_acts 2
    acts_fit (is.Break b) e lt = then_jump (breaks (break_target p m n b)) e
    acts_fit (is.Continue b) e lt = then_jump (continues (continue_target p m n b)) e
    acts_fit is.Return e lt = then_jump by_return e
    acts_fit is.Throw e lt = then_jump by_throw e
    acts_fit (is.Try b) e lt = wider 0 2 (part (first p n) ∷ []) (omega arith) (one_part (first p n) (first_in lt))
    acts_fit (is.ConstructorCall which) e lt = then_event
    acts_fit is.ImplicitCall e lt = wider 1 2 (event n ∷ []) (omega arith) (one_event n)
    acts_fit (is.Call receiver) e lt = then_event
    acts_fit is.New e lt = then_event
    acts_fit (is.NewArray primitive zero extra) e lt = just_parts
    acts_fit (is.NewArray primitive (suc lengths) extra) e lt = then_event
    acts_fit is.List e lt = list_fits
    acts_fit (is.Name kind place is_qualified) e lt = name_fits
    acts_fit is.Select e lt = name_fits
    acts_fit is.SuperSelect e lt = name_fits
    acts_fit is.Index e lt = index_fits
    acts_fit (is.Assign op) e lt = assignment_fits op
    acts_fit (is.PreStep op) e lt = step_fits
    acts_fit (is.PostStep op) e lt = step_fits
    acts_fit is.Conditional e lt = two_ways_fits lt
    acts_fit (is.Binary op) e lt = binary_fits op lt
    acts_fit (is.Unary y.Not) e lt = then_node
    acts_fit is.Cast e lt = then_acts 2 (event_if (narrows p m n) n) (wider 1 2 (event_if (narrows p m n) n) (omega arith) (event_fits (narrows p m n) n))
    acts_fit (is.TypeUse primitive dims) e lt = no_acts 2
    acts_fit _ e lt = just_parts

-- ---- the rows of a body

-- what is structured has no `finally` and the rows to which control goes
pub record IsStructured (p : Rows) (n : ℕ) : Type 0 where
  pub free : is_try_with_finally (label p n) ≡ false
  pub far : farthest_by (label p n) p n < end p n

pub structured_tells : (p : Rows) (n : ℕ) → is_structured p n ≡ true → IsStructured p n
structured_tells p n e = by (is_try_with_finally (label p n)) (nat_lt (farthest_by (label p n) p n) (end p n)) refl (Decides-ltb (farthest_by (label p n) p n) (end p n)) e
  where
    by : (t b : Bool) → is_try_with_finally (label p n) ≡ t → Decides b (farthest_by (label p n) p n < end p n) → (not t && b) ≡ true → IsStructured p n
    by true b f d g = absurd (false≢true g)
    by false b f d g = record { free = f; far = d.0 g }

pub record IsStructuredBody (p : Rows) (body : ℕ) : Type 0 where
  pub tree : IsTree p
  pub few : body < length p
  pub has : has_code p body ≡ true
  pub rows : (n : ℕ) → body ≤ n → n < end p body → IsStructured p n

-- a body is left by completing or by a throw
abbrev pub IsWayOut : Moment → Type 0
IsWayOut (before i) = Unit {0}
IsWayOut (completed normally) = Unit {0}
IsWayOut (completed by_throw) = Unit {0}
IsWayOut _ = ⊥

left_out : (t : Moment) → IsWayOut (as_left t)
left_out (before i) = tt
left_out (completed normally) = tt
left_out (completed (by_break x)) = tt
left_out (completed (by_continue x)) = tt
left_out (completed by_return) = tt
left_out (completed by_throw) = tt

module _ (p : Rows) (m : Meaning) (body : ℕ) (right : IsStructuredBody p body) where
  abbrev pub In : ℕ → Type 0
  In n = (body ≤ n) × (n < end p body)

  -- the place stands in the body, and nothing is pending there
  pub record IsHeld (a : State) : Type 0 where
    pub inside : In a.row
    pub free : a.pending ≡ []
    pub out : a.row ≡ body → IsWayOut a.moment

  abbrev IsHeldHop : Hop State → Type 0
  IsHeldHop hop = IsHeld hop.to

  abbrev AreHeldHops : List (Hop State) → Type 0
  AreHeldHops all = AllByRecursion IsHeldHop all

  apart_or_body : (n : ℕ) → In n → end p n ≤ end p body
  apart_or_body n i = ⊎_elim (λ less. right.tree.apart body n less i.1) (λ past. let low = i.0 in let same : body ≡ n = omega (arith, past, low) in subst (λ k. end p k ≤ end p body) same (omega arith)) (cases_lt body n)

  pub below_in : (n : ℕ) → In n → (k : ℕ) → n ≤ k → k < end p n → In k
  below_in n i k low high = let e = apart_or_body n i in let f = i.0 in (omega (arith, f, low), omega (arith, e, high))

  pub row_acts_fit : (n : ℕ) → In n → AreFewActs In (has_code p n) (most_by (label p n) p n) (acts p m n)
  row_acts_fit n i = acts_fit p m right.tree n In (below_in n i) (has_code p n) (label p n) refl (right.rows n i.0 i.1).far

  -- ---- from before an act

  held_at : (n i : ℕ) → In n → IsHeld (at n i [])
  held_at n i h = record { inside = h; free = refl; out = λ e. tt }

  held_left : (n : ℕ) (c : Completion) → In n → (n ≡ body → IsWayOut (completed c)) → IsHeld (left n c [])
  held_left n c h out = record { inside = h; free = refl; out = out }

  all_at_held : (n i count : ℕ) → In n → AreHeldHops (all_at n i count [])
  all_at_held n i zero h = tt
  all_at_held n i (suc count) h = (held_at n i h, all_at_held n (i + 1) count h)

  unless_default : (t : Bool) (n : ℕ) → In n → AreHeldHops (if t then [] else plainly (left n normally []) ∷ [])
  unless_default true n h = tt
  unless_default false n h = (held_left n normally h (λ e. tt), tt)

  no_jump : (n : ℕ) (c : Completion) → has_code p n ≡ false → n ≡ body → IsWayOut (completed c)
  no_jump n c free e = absurd (false≢true (sym free ∙ subst (λ k. has_code p k ≡ true) (sym e) right.has))

  act_held : (o : Option Act) (n i count : ℕ) → In n → IfActIn In (has_code p n) o → AreHeldHops (act_hops o n i count [])
  act_held None n i count h a = (held_left n normally h (λ e. tt), tt)
  act_held (Some (part k)) n i count h a = (held_at k 0 a, tt)
  act_held (Some (event k)) n i count h a = (held_at n (i + 1) h, (held_left n by_throw h (λ e. tt), tt))
  act_held (Some (node k)) n i count h a = (held_at n (i + 1) h, tt)
  act_held (Some (define k d)) n i count h a = (held_at n (i + 1) h, tt)
  act_held (Some (use_of k d)) n i count h a = (held_at n (i + 1) h, tt)
  act_held (Some quit) n i count h a = (held_at n (i + 1) h, (held_left n normally h (λ e. tt), tt))
  act_held (Some (fork j)) n i count h a = (held_at n (i + 1) h, (held_at n j h, tt))
  act_held (Some (choose b)) n i count h a = all_joined IsHeldHop (all_at n (i + 1) (count - (i + 1)) []) (if b then [] else plainly (left n normally []) ∷ []) (all_at_held n (i + 1) (count - (i + 1)) h) (unless_default b n h)
  act_held (Some (go j)) n i count h a = (held_at n j h, tt)
  act_held (Some (jump c)) n i count h a = (held_left n c h (no_jump n c a), tt)

  -- ---- out of a row

  record IsFree (a : State) : Type 0 where
    inside : In a.row
    free : a.pending ≡ []

  free_at : (n i : ℕ) → In n → IsFree (at n i [])
  free_at n i h = record { inside = h; free = refl }

  free_left : (n : ℕ) (c : Completion) → In n → IsFree (left n c [])
  free_left n c h = record { inside = h; free = refl }

  either_free : (b : Bool) (x z : State) → IsFree x → IsFree z → IsFree (if b then x else z)
  either_free true x z h k = h
  either_free false x z h k = k

  part_left_free : (all : Acts) (l : Label) (n k : ℕ) (c : Completion) → In n → IsFree (part_left all l n k c [])
  part_left_free all l n k normally h = free_at n (behind all k) h
  part_left_free all l n k (by_break x) h = either_free (nat_eq x n) (left n normally []) (left n (by_break x) []) (free_left n normally h) (free_left n (by_break x) h)
  part_left_free all l n k (by_continue x) h = either_free (nat_eq x n) (at n (next_turn l) []) (left n (by_continue x) []) (free_at n (next_turn l) h) (free_left n (by_continue x) h)
  part_left_free all l n k by_return h = free_left n by_return h
  part_left_free all l n k by_throw h = free_left n by_throw h

  into_catches : (rows : List ℕ) → AllByRecursion In rows → AllByRecursion IsFree (map (λ k. at k 0 []) rows)
  into_catches [] h = tt
  into_catches (k ∷ rows) h = (free_at k 0 h.0, into_catches rows h.1)

  catches_in : (n : ℕ) → In n → AllByRecursion In (catches p n)
  catches_in n i = all_filtered In (λ k. is_catch (label p k)) (children p n) (children_in p right.tree n In (below_in n i))

  body_left_free : (n : ℕ) (c : Completion) → In n → AllByRecursion IsFree (body_left p n false c [])
  body_left_free n by_throw h = all_joined IsFree (map (λ k. at k 0 []) (catches p n)) (left n by_throw [] ∷ []) (into_catches (catches p n) (catches_in n h)) (free_left n by_throw h, tt)
  body_left_free n normally h = (free_left n normally h, tt)
  body_left_free n (by_break x) h = (free_left n (by_break x) h, tt)
  body_left_free n (by_continue x) h = (free_left n (by_continue x) h, tt)
  body_left_free n by_return h = (free_left n by_return h, tt)

  try_left_free : (n k : ℕ) (c : Completion) → In n → AllByRecursion IsFree (try_left p n false k c [])
  try_left_free n k c h = by (nat_eq k (n + 1))
    where
      by : (b : Bool) → AllByRecursion IsFree (if b then body_left p n false c [] else left n c [] ∷ [])
      by true = body_left_free n c h
      by false = (free_left n c h, tt)

  left_free : (l : Label) (n k : ℕ) (c : Completion) → is_try_with_finally l ≡ false → In n → AllByRecursion IsFree (left_by l p m n k c [])
  left_free (is.Try true) n k c e h = absurd (false≢true (sym e))
  left_free (is.Try false) n k c e h = try_left_free n k c h
  left_free l n k c e h = (part_left_free (acts p m n) l n k c h, tt)

  -- ---- all together

  ending_held : (a : State) → IsFree a → IsHeld (ending body a)
  ending_held a h = by (nat_eq a.row body) (Decides-eqb a.row body)
    where
      by : (b : Bool) → Decides b (a.row ≡ body) → IsHeld (if b then record { row = a.row; moment = as_left a.moment; pending = a.pending } else a)
      by true d = record { inside = h.inside; free = h.free; out = λ e. left_out a.moment }
      by false d = record { inside = h.inside; free = h.free; out = λ e. absurd (false≢true (d.1 e)) }

  all_ending : (all : List State) → AllByRecursion IsFree all → AreHeldHops (map (λ a. plainly (ending body a)) all)
  all_ending [] h = tt
  all_ending (a ∷ all) h = (ending_held a h.0, all_ending all h.1)

  parent_in : (n : ℕ) → In n → body < n → In (parent p n)
  parent_in n i less = let t = i.1 in let l = right.tree.last body right.few in let up = right.tree.up n (omega (arith, t, l)) (omega (arith, less)) in (right.tree.inner body n less i.1, omega (arith, up, t))

  completed_held : (n : ℕ) (c : Completion) → In n → AreHeldHops (hops_by (completed c) p m body n [])
  completed_held n c i = by (nat_eq n body) (Decides-eqb n body)
    where
      by : (b : Bool) → Decides b (n ≡ body) → AreHeldHops (if b then [] else map (λ a. plainly (ending body a)) (left_by (label p (parent p n)) p m (parent p n) n c []))
      by true d = tt
      by false d = let low = i.0 in ⊎_elim
          (λ less. let up = parent_in n i less in all_ending (left_by (label p (parent p n)) p m (parent p n) n c []) (left_free (label p (parent p n)) (parent p n) n c (right.rows (parent p n) up.0 up.1).free up))
          (λ past. let same : n ≡ body = omega (arith, past, low) in absurd (false≢true (d.1 same))) (cases_lt body n)

  moment_held : (t : Moment) (n : ℕ) → In n → AreHeldHops (hops_by t p m body n [])
  moment_held (before i) n h = act_held (slice_get (acts p m n) i) n i (length (acts p m n)) h (act_in In (has_code p n) (acts p m n) i (row_acts_fit n h).within)
  moment_held (completed c) n h = completed_held n c h

  hops_held : (a : State) → IsHeld a → AreHeldHops (hops p m body a)
  hops_held a h = subst (λ w. AreHeldHops (hops_by a.moment p m body a.row w)) (sym h.free) (moment_held a.moment a.row h.inside)

  pub reached_held : (a : State) → IsReached (body_flow p m body) a → IsHeld a
  reached_held a IsReached.start = held_at body 0 (omega arith, right.tree.nested body)
  reached_held b (IsReached.on {a = a} reached goes) = one_of_all IsHeldHop (hops p m body a) (record { to = b; is_throw = goes.is_throw }) (hops_held a (reached_held a reached)) goes.hop
