-- The acts of a row of the copy are those of the row that it is a copy of, so many rows on.
use Rattle.std.proofs.Common.{◌≡◌, refl, sym, ◌∙◌, ap, ap₂, subst, arith, ℕ, zero, suc, ◌+◌, ◌-◌, ◌<◌, ◌≤◌, Bool, true, false, not, List, [], ◌∷◌, ◌++◌, map, filter, Option, Some, None, option_map, nat_lt}
use Rattle.std.specs.List.{AllByRecursion, list_any}
use Rattle.std.proofs.lemmas.Bool.Decides.{Decides-ltb}
use Rattle.jr_base.specs.declared.kind.Symbol.{Symbol}
use Rattle.jr_base.specs.declared.kind.Symbol.TheVariants as y
use Rattle.jr_tree.specs.declared.label.Label.{Label}
use Rattle.jr_tree.specs.declared.label.Label.TheVariants as is
use Rattle.jr_tree.specs.Rows.{Rows, label, parent, end}
use Rattle.jr_flow_defs.specs.Meaning.{Meaning, local_at, reads_field, is_only_written, operand, makes, shows_left, narrows}
use Rattle.jr_flow_defs.specs.Acts.{part, event, node, define, use_of, quit, fork, choose, go, jump, Acts, siblings, children, children_from, first, second, third, last, parts, event_if, fetched, name_acts, index_acts, written, assignment_acts, step_acts, guarded, two_ways, if_acts, binary_acts, for_first, for_start, for_condition, for_updates, for_test, for_acts, is_default, is_default_group, switch_acts, by_return, by_throw, break_target, continue_target, breaks, continues, is_parameter, is_catch, callable_acts, parameter_acts, local_acts, list_acts, acts_by, acts}
use Rattle.jr_flow_laws.specs.Shifted.{IsIn, declares_code, for_parts, least_parts, IsWholeBody, AreShiftedRows}
use Rattle.jr_flow_laws.proofs.Moving.{same_less, IsOver, none_over, more_over, one_over, part_over, append_over, if_over, parts_over, stores_over}
use Rattle.jr_flow_laws.proofs.Standing.{filter_over, filter_in, any_over, first_in, second_in, third_in, below_in, ends_in, stands_below, siblings_in, children_in, last_row_in, next_over, end_over, second_over, third_over, siblings_to, children_over, last_row_over}
use Rattle.jr_flow_laws.proofs.Meant.{local_at_over, reads_over, parent_label_over, only_written_over, operand_over, makes_over, shows_over}
use Rattle.jr_flow_laws.proofs.Jumping.{breaks_over, continues_over}

module _ (p q : Rows) (m w : Meaning) (body s : ℕ) (outside : ℕ → ℕ) (whole : IsWholeBody p m body) (rows : AreShiftedRows p q m w body s outside) where
  abbrev In : ℕ → Type 0
  In = IsIn p body

  abbrev Over : Acts → Acts → Type 0
  Over = IsOver s In

  next : (n : ℕ) → n + s + 1 ≡ n + 1 + s
  next = next_over p q m w body s outside whole rows

  enough : (l : Label) (n : ℕ) → label p n ≡ l → least_parts l ≤ least_parts (label p n)
  enough l n e = subst (λ z. least_parts l ≤ least_parts z) (sym e) (omega arith)

  -- ---- parts and single acts

  own_parts : (n : ℕ) → In n → Over (parts p n) (parts q (n + s))
  own_parts n i = parts_over s In (children p n) (children q (n + s)) (children_over p q m w body s outside whole rows n i) (children_in p m body whole n i)

  none : Over [] []
  none = none_over s In

  then_event : (n : ℕ) → In n → Over (parts p n ++ event n ∷ []) (parts q (n + s) ++ event (n + s) ∷ [])
  then_event n i = append_over s In (own_parts n i) (one_over s In (event n) (event (n + s)) refl i)

  then_node : (n : ℕ) → In n → Over (parts p n ++ node n ∷ []) (parts q (n + s) ++ node (n + s) ∷ [])
  then_node n i = append_over s In (own_parts n i) (one_over s In (node n) (node (n + s)) refl i)

  event_over : (t u : Bool) (n : ℕ) → u ≡ t → In n → Over (event_if t n) (event_if u (n + s))
  event_over t u n e i = if_over s In t u e (λ h. one_over s In (event n) (event (n + s)) refl i) (λ h. none)

  -- ---- names and places that are assigned

  fetched_told : (n : ℕ) → In n → (o : Option ℕ) → Over (fetched p m n o) (fetched q w (n + s) (option_map (λ k. k + s) o))
  fetched_told n i (Some d) = one_over s In (use_of n d) (use_of (n + s) (d + s)) refl i
  fetched_told n i None = event_over (reads_field p m n) (reads_field q w (n + s)) n (reads_over p q m w body s outside whole rows n i) i

  fetched_over : (n : ℕ) → In n → Over (fetched p m n (local_at p m n)) (fetched q w (n + s) (local_at q w (n + s)))
  fetched_over n i = subst (λ o. Over (fetched p m n (local_at p m n)) (fetched q w (n + s) o)) (sym (local_at_over p q m w body s outside whole rows n i)) (fetched_told n i (local_at p m n))

  name_over : (n : ℕ) → In n → body < n → Over (name_acts p m n) (name_acts q w (n + s))
  name_over n i less = append_over s In (own_parts n i)
      (if_over s In (is_only_written p n) (is_only_written q (n + s)) (only_written_over p q m w body s outside whole rows n i less) (λ h. none) (λ h. fetched_over n i))

  index_over : (n : ℕ) → In n → body < n → Over (index_acts p n) (index_acts q (n + s))
  index_over n i less = append_over s In (own_parts n i)
      (if_over s In (is_only_written p n) (is_only_written q (n + s)) (only_written_over p q m w body s outside whole rows n i less) (λ h. none) (λ h. one_over s In (event n) (event (n + s)) refl i))

  written_told : (n k : ℕ) → In n → In k → (o : Option ℕ) → Over (written n k o) (written (n + s) (k + s) (option_map (λ k. k + s) o))
  written_told n k i j (Some d) = one_over s In (define k d) (define (k + s) (d + s)) refl j
  written_told n k i j None = one_over s In (event n) (event (n + s)) refl i

  -- what is assigned is the local at the row k; its definition stands at the row at
  written_over : (n at k l there : ℕ) → In n → In at → In k → l ≡ k + s → there ≡ at + s → Over (written n at (local_at p m k)) (written (n + s) there (local_at q w l))
  written_over n at k l there i a j e f = subst (λ z. Over (written n at (local_at p m k)) (written (n + s) z (local_at q w l))) (sym f)
      (subst (λ o. Over (written n at (local_at p m k)) (written (n + s) (at + s) o)) (sym (ap (local_at q w) e ∙ local_at_over p q m w body s outside whole rows k j)) (written_told n at i a (local_at p m k)))

  assignment_over : (n : ℕ) (op : Symbol) → In n → 1 ≤ least_parts (label p n) → Over (assignment_acts p m n op) (assignment_acts q w (n + s) op)
  assignment_over n op i h = let u = operand_over p q m w body s outside whole rows n i h in
      append_over s In (append_over s In (own_parts n i) (event_over (makes p m n op) (makes q w (n + s) op) n (makes_over p q m w body s outside whole rows n i op) i))
      (written_over n (operand p n) (operand p n) (operand q (n + s)) (operand q (n + s)) i u.inside u.inside u.moved u.moved)

  step_over : (n : ℕ) → In n → 1 ≤ least_parts (label p n) → Over (step_acts p m n) (step_acts q w (n + s))
  step_over n i h = let u = operand_over p q m w body s outside whole rows n i h in
      append_over s In (own_parts n i) (written_over n n (operand p n) (operand q (n + s)) (n + s) i i u.inside u.moved refl)

  -- ---- branches

  first_at : (n : ℕ) → first q (n + s) ≡ first p n + s
  first_at n = next n

  second_at : (n : ℕ) → In (n + 1) → second q (n + s) ≡ second p n + s
  second_at = second_over p q m w body s outside whole rows

  third_at : (n : ℕ) → In (n + 1) → In (end p (n + 1)) → third q (n + s) ≡ third p n + s
  third_at = third_over p q m w body s outside whole rows

  guarded_over : (n : ℕ) → In (n + 1) → In (end p (n + 1)) → Over (guarded (first p n) (second p n)) (guarded (first q (n + s)) (second q (n + s)))
  guarded_over n i j = part_over s In (first p n) (first q (n + s)) (first_at n) i (more_over s In quit quit refl tt (part_over s In (second p n) (second q (n + s)) (second_at n i) j none))

  two_ways_over : (n : ℕ) → In (n + 1) → In (end p (n + 1)) → In (end p (end p (n + 1)))
      → Over (two_ways (first p n) (second p n) (third p n)) (two_ways (first q (n + s)) (second q (n + s)) (third q (n + s)))
  two_ways_over n i j k = part_over s In (first p n) (first q (n + s)) (first_at n) i (more_over s In (fork 4) (fork 4) refl tt
      (part_over s In (second p n) (second q (n + s)) (second_at n i) j (more_over s In (go 5) (go 5) refl tt (part_over s In (third p n) (third q (n + s)) (third_at n i j) k none))))

  if_acts_over : (n : ℕ) → In n → 2 ≤ least_parts (label p n) → Over (if_acts p n) (if_acts q (n + s))
  if_acts_over n i h =
      let one = first_in p m body whole n i (omega (arith, h)) in
      let two = second_in p m body whole n i h in
      if_over s In (nat_lt (third p n) (end p n)) (nat_lt (third q (n + s)) (end q (n + s)))
      (ap₂ nat_lt (third_at n one two) (rows.ends n i) ∙ same_less s (third p n) (end p n))
      (λ t. let up = whole.tree.nested (n + 1) in let over = whole.tree.nested (end p (n + 1)) in
      two_ways_over n one two (below_in p m body whole n (third p n) i (omega (arith, up, over)) ((Decides-ltb (third p n) (end p n)).0 t)))
      (λ f. guarded_over n one two)

  plain_binary : (n : ℕ) (op : Symbol) → In n → In (n + 1) → In (end p (n + 1))
      → Over (part (first p n) ∷ event_if (shows_left p m n op) n ++ part (second p n) ∷ event_if (makes p m n op) n)
      (part (first q (n + s)) ∷ event_if (shows_left q w (n + s) op) (n + s) ++ part (second q (n + s)) ∷ event_if (makes q w (n + s) op) (n + s))
  plain_binary n op i one two = part_over s In (first p n) (first q (n + s)) (first_at n) one
      (append_over s In (event_over (shows_left p m n op) (shows_left q w (n + s) op) n (shows_over p q m w body s outside whole rows n i one op) i)
      (part_over s In (second p n) (second q (n + s)) (second_at n one) two (event_over (makes p m n op) (makes q w (n + s) op) n (makes_over p q m w body s outside whole rows n i op) i)))

  binary_over : (op : Symbol) (n : ℕ) → In n → In (n + 1) → In (end p (n + 1)) → Over (binary_acts p m n op) (binary_acts q w (n + s) op)
  binary_over y.AndAnd n i one two = guarded_over n one two
  binary_over y.OrOr n i one two = guarded_over n one two
  binary_over op n i one two = plain_binary n op i one two

  -- ---- loops

  while_over : (n : ℕ) → In n → 2 ≤ least_parts (label p n)
      → Over (part (first p n) ∷ quit ∷ part (second p n) ∷ go 0 ∷ []) (part (first q (n + s)) ∷ quit ∷ part (second q (n + s)) ∷ go 0 ∷ [])
  while_over n i h = let one = first_in p m body whole n i (omega (arith, h)) in
      part_over s In (first p n) (first q (n + s)) (first_at n) one (more_over s In quit quit refl tt
      (part_over s In (second p n) (second q (n + s)) (second_at n one) (second_in p m body whole n i h) (one_over s In (go 0) (go 0) refl tt)))

  do_over : (n : ℕ) → In n → 2 ≤ least_parts (label p n) → Over (part (first p n) ∷ part (second p n) ∷ fork 0 ∷ []) (part (first q (n + s)) ∷ part (second q (n + s)) ∷ fork 0 ∷ [])
  do_over n i h = let one = first_in p m body whole n i (omega (arith, h)) in
      part_over s In (first p n) (first q (n + s)) (first_at n) one (part_over s In (second p n) (second q (n + s)) (second_at n one) (second_in p m body whole n i h) (one_over s In (fork 0) (fork 0) refl tt))

  -- the parts of the header of a `for` stand in the body, as far as it has them
  record HasHeader (n : ℕ) (f c : Bool) : Type 0 where
    first_part : f ≡ true → In (n + 1)
    condition : c ≡ true → In (for_condition p n f)

  header_in : (n : ℕ) (f c : Bool) → In n → for_parts f c ≤ least_parts (label p n) → HasHeader n f c
  header_in n true true i h = record { first_part = λ e. first_in p m body whole n i (omega (arith, h)); condition = λ e. second_in p m body whole n i (omega (arith, h)) }
  header_in n true false i h = record { first_part = λ e. first_in p m body whole n i (omega (arith, h)); condition = λ e. second_in p m body whole n i h }
  header_in n false c i h = record { first_part = λ e. at_first c h; condition = λ e. at_first c h } where
    at_first : (c : Bool) → for_parts false c ≤ least_parts (label p n) → In (n + 1)
    at_first true h = first_in p m body whole n i (omega (arith, h))
    at_first false h = first_in p m body whole n i h

  first_part_over : (n : ℕ) (f : Bool) → (f ≡ true → In (n + 1)) → Over (for_first p n f) (for_first q (n + s) f)
  first_part_over n true h = part_over s In (first p n) (first q (n + s)) (first_at n) (h refl) none
  first_part_over n false h = none

  condition_at : (n : ℕ) (f : Bool) → (f ≡ true → In (n + 1)) → for_condition q (n + s) f ≡ for_condition p n f + s
  condition_at n true h = second_at n (h refl)
  condition_at n false h = first_at n

  test_over : (k l : ℕ) (c : Bool) → l ≡ k + s → (c ≡ true → In k) → Over (for_test k c) (for_test l c)
  test_over k l true e h = part_over s In k l e (h refl) (one_over s In quit quit refl tt)
  test_over k l false e h = none

  updates_at : (k l : ℕ) (c : Bool) → l ≡ k + s → (c ≡ true → In k) → for_updates q l c ≡ for_updates p k c + s
  updates_at k l true e h = end_over p q m w body s outside whole rows k l (h refl) e
  updates_at k l false e h = e

  condition_low : (n : ℕ) (f : Bool) → body ≤ n → body ≤ for_condition p n f
  condition_low n true h = let up = whole.tree.nested (n + 1) in omega (arith, h, up)
  condition_low n false h = omega (arith, h)

  updates_low : (k : ℕ) (c : Bool) → body ≤ k → body ≤ for_updates p k c
  updates_low k true h = let up = whole.tree.nested k in omega (arith, h, up)
  updates_low k false h = h

  for_over : (n : ℕ) (f c : Bool) → In n → HasHeader n f c → Over (for_acts p n f c) (for_acts q (n + s) f c)
  for_over n f c i h =
      let at = condition_at n f h.first_part in
      let inside = last_row_in p m body whole n i in
      let to = inside.to in
      let low = updates_low (for_condition p n f) c (condition_low n f i.from) in
      append_over s In (append_over s In (append_over s In (append_over s In (first_part_over n f h.first_part) (test_over (for_condition p n f) (for_condition q (n + s) f) c at h.condition))
      (part_over s In (last p n) (last q (n + s)) (last_row_over p q m w body s outside whole rows n i) inside none))
      (parts_over s In (siblings p (end p n - n) (for_updates p (for_condition p n f) c) (last p n)) (siblings q (end q (n + s) - (n + s)) (for_updates q (for_condition q (n + s) f) c) (last q (n + s)))
      (siblings_to p q m w body s outside whole rows n (for_updates p (for_condition p n f) c) (for_updates q (for_condition q (n + s) f) c) (last p n) (last q (n + s)) i low (omega (arith, to))
      (updates_at (for_condition p n f) (for_condition q (n + s) f) c at h.condition) (last_row_over p q m w body s outside whole rows n i))
      (siblings_in p m body whole (end p n - n) (for_updates p (for_condition p n f) c) (last p n) low (omega (arith, to)))))
      (one_over s In (go (for_start f)) (go (for_start f)) refl tt)

  -- ---- `switch`

  default_over : (k : ℕ) → In k → is_default_group q (k + s) ≡ is_default_group p k
  default_over k i = ap (list_any (λ j. is_default (label q j))) (children_over p q m w body s outside whole rows k i)
      ∙ any_over In s (λ j. is_default (label p j)) (λ j. is_default (label q j)) (λ j h. ap is_default (rows.labels j h)) (children p k) (children_in p m body whole k i)

  groups_over : (n : ℕ) → (groups there : List ℕ) → there ≡ map (λ k. k + s) groups → AllByRecursion In groups
      → Over (choose (list_any (is_default_group p) groups) ∷ map part groups) (choose (list_any (is_default_group q) there) ∷ map part there)
  groups_over n groups there e h = more_over s In (choose (list_any (is_default_group p) groups)) (choose (list_any (is_default_group q) there))
      (ap choose (ap (list_any (is_default_group q)) e ∙ any_over In s (is_default_group p) (is_default_group q) default_over groups h)) tt (parts_over s In groups there e h)

  switch_over : (n : ℕ) → In n → 1 ≤ least_parts (label p n) → Over (switch_acts p n) (switch_acts q (n + s))
  switch_over n i h =
      let one = first_in p m body whole n i h in
      let from = one.from in
      let up = whole.tree.nested (n + 1) in
      part_over s In (first p n) (first q (n + s)) (first_at n) one (groups_over n (children_from p n (second p n)) (children_from q (n + s) (second q (n + s)))
      (siblings_to p q m w body s outside whole rows n (second p n) (second q (n + s)) (end p n) (end q (n + s)) i (omega (arith, from, up)) (ends_in p m body whole n i) (second_at n one) (rows.ends n i))
      (siblings_in p m body whole (end p n - n) (second p n) (end p n) (omega (arith, from, up)) (ends_in p m body whole n i)))

  -- ---- declarations, and what makes arrays

  kept_over : (test : Label → Bool) (n : ℕ) → In n → Over (map part (filter (λ k. test (label p k)) (children p n))) (map part (filter (λ k. test (label q k)) (children q (n + s))))
  kept_over test n i = parts_over s In (filter (λ k. test (label p k)) (children p n)) (filter (λ k. test (label q k)) (children q (n + s)))
      (ap (filter (λ k. test (label q k))) (children_over p q m w body s outside whole rows n i)
      ∙ filter_over In s (λ k. test (label p k)) (λ k. test (label q k)) (λ k h. ap test (rows.labels k h)) (children p n) (children_in p m body whole n i))
      (filter_in In (λ k. test (label p k)) (children p n) (children_in p m body whole n i))

  callable_over : (n : ℕ) → In n → Over (callable_acts p n) (callable_acts q (n + s))
  callable_over n i = append_over s In (kept_over is_parameter n i) (kept_over (λ l. not (is_parameter l)) n i)

  parameter_over : (n : ℕ) → In n → body < n → Over (parameter_acts p n) (parameter_acts q (n + s))
  parameter_over n i less = append_over s In (if_over s In (is_catch (label p (parent p n))) (is_catch (label q (parent q (n + s)))) (ap is_catch (parent_label_over p q m w body s outside whole rows n i less))
      (λ t. one_over s In (node n) (node (n + s)) refl i) (λ f. none)) (one_over s In (define n n) (define (n + s) (n + s)) refl i)

  local_over : (n : ℕ) → In n → Over (local_acts p n) (local_acts q (n + s))
  local_over n i = if_over s In (nat_lt (n + 1) (end p n)) (nat_lt (n + s + 1) (end q (n + s))) (ap₂ nat_lt (next n) (rows.ends n i) ∙ same_less s (n + 1) (end p n))
      (λ t. append_over s In (own_parts n i) (one_over s In (define n n) (define (n + s) (n + s)) refl i)) (λ f. none)

  list_over : (n : ℕ) → In n → Over (list_acts p n) (list_acts q (n + s))
  list_over n i = more_over s In (event n) (event (n + s)) refl i (stores_over s In (children p n) (children q (n + s)) (children_over p q m w body s outside whole rows n i) (children_in p m body whole n i))

  -- ---- all rows

  break_over : (n : ℕ) (b : Bool) → In n → label p n ≡ is.Break b
      → Over (parts p n ++ jump (breaks (break_target p m n b)) ∷ []) (parts q (n + s) ++ jump (breaks (break_target q w (n + s) b)) ∷ [])
  break_over n b i e = append_over s In (own_parts n i) (one_over s In (jump (breaks (break_target p m n b))) (jump (breaks (break_target q w (n + s) b))) (ap jump (breaks_over p q m w body s outside whole rows n b i e)) tt)

  continue_over : (n : ℕ) (b : Bool) → In n → label p n ≡ is.Continue b
      → Over (parts p n ++ jump (continues (continue_target p m n b)) ∷ []) (parts q (n + s) ++ jump (continues (continue_target q w (n + s) b)) ∷ [])
  continue_over n b i e = append_over s In (own_parts n i) (one_over s In (jump (continues (continue_target p m n b))) (jump (continues (continue_target q w (n + s) b))) (ap jump (continues_over p q m w body s outside whole rows n b i e)) tt)

  cast_over : (n : ℕ) → In n → label p n ≡ is.Cast → Over (parts p n ++ event_if (narrows p m n) n) (parts q (n + s) ++ event_if (narrows q w (n + s)) (n + s))
  cast_over n i e = append_over s In (own_parts n i) (event_over (narrows p m n) (narrows q w (n + s)) n (rows.casts n i e) i)

  below : (l : Label) (n : ℕ) → In n → label p n ≡ l → declares_code l ≡ false → body < n
  below l n i e none = stands_below p m body whole n i (ap declares_code e ∙ none)

  acts_by_over : (l : Label) (n : ℕ) → In n → label p n ≡ l → Over (acts_by l p m n) (acts_by l q w (n + s))
  acts_by_over (is.Method modifiers is_void has_body) n i e = callable_over n i
  acts_by_over (is.Constructor modifiers) n i e = callable_over n i
  acts_by_over (is.Field modifiers dims) n i e = then_event n i
  acts_by_over (is.Parameter is_final dims) n i e = parameter_over n i (below (is.Parameter is_final dims) n i e refl)
  acts_by_over (is.Local is_final dims) n i e = local_over n i
  acts_by_over is.Skip n i e = one_over s In (node n) (node (n + s)) refl i
  acts_by_over is.Eval n i e = then_node n i
  acts_by_over is.Locals n i e = then_node n i
  acts_by_over is.If n i e = if_acts_over n i (enough is.If n e)
  acts_by_over is.While n i e = while_over n i (enough is.While n e)
  acts_by_over is.Do n i e = do_over n i (enough is.Do n e)
  acts_by_over (is.For f c) n i e = for_over n f c i (header_in n f c i (enough (is.For f c) n e))
  acts_by_over is.Switch n i e = switch_over n i (enough is.Switch n e)
  acts_by_over is.Case n i e = none
  acts_by_over (is.Break b) n i e = break_over n b i e
  acts_by_over (is.Continue b) n i e = continue_over n b i e
  acts_by_over is.Return n i e = append_over s In (own_parts n i) (one_over s In (jump by_return) (jump by_return) refl tt)
  acts_by_over is.Throw n i e = append_over s In (own_parts n i) (one_over s In (jump by_throw) (jump by_throw) refl tt)
  acts_by_over (is.Try b) n i e = part_over s In (first p n) (first q (n + s)) (first_at n) (first_in p m body whole n i (enough (is.Try b) n e)) none
  acts_by_over (is.ConstructorCall which) n i e = then_event n i
  acts_by_over is.ImplicitCall n i e = one_over s In (event n) (event (n + s)) refl i
  acts_by_over (is.Call receiver) n i e = then_event n i
  acts_by_over is.New n i e = then_event n i
  acts_by_over (is.NewArray primitive zero extra) n i e = own_parts n i
  acts_by_over (is.NewArray primitive (suc lengths) extra) n i e = then_event n i
  acts_by_over is.List n i e = list_over n i
  acts_by_over (is.Name kind place is_qualified) n i e = name_over n i (below (is.Name kind place is_qualified) n i e refl)
  acts_by_over is.Select n i e = name_over n i (below is.Select n i e refl)
  acts_by_over is.SuperSelect n i e = name_over n i (below is.SuperSelect n i e refl)
  acts_by_over is.Index n i e = index_over n i (below is.Index n i e refl)
  acts_by_over (is.Assign op) n i e = let h = enough (is.Assign op) n e in assignment_over n op i (omega (arith, h))
  acts_by_over (is.PreStep op) n i e = step_over n i (enough (is.PreStep op) n e)
  acts_by_over (is.PostStep op) n i e = step_over n i (enough (is.PostStep op) n e)
  acts_by_over is.Conditional n i e = let h = enough is.Conditional n e in
      two_ways_over n (first_in p m body whole n i (omega (arith, h))) (second_in p m body whole n i (omega (arith, h))) (third_in p m body whole n i h)
  acts_by_over (is.Binary op) n i e = let h = enough (is.Binary op) n e in binary_over op n i (first_in p m body whole n i (omega (arith, h))) (second_in p m body whole n i h)
  acts_by_over (is.Unary y.Not) n i e = then_node n i
  acts_by_over is.Cast n i e = cast_over n i e
  acts_by_over (is.TypeUse primitive dims) n i e = none
  acts_by_over _ n i e = own_parts n i

  pub acts_over : (n : ℕ) → In n → Over (acts p m n) (acts q w (n + s))
  acts_over n i = subst (λ l. Over (acts p m n) (acts_by l q w (n + s))) (sym (rows.labels n i)) (acts_by_over (label p n) n i refl)
