-- What it tells that the rows of a body have what a body by itself has.
use Rattle.std.proofs.Common.{◌≡◌, refl, sym, ◌∙◌, ap, subst, arith, ℕ, zero, suc, ◌+◌, ◌-◌, ◌<◌, ◌≤◌, Bool, true, false, ◌&&◌, if◌then◌else◌, List, [], ◌∷◌, length, Option, Some, None, nat_eq, nat_le, nat_lt}
use Rattle.std.proofs.lemmas.Bool.{false≢true, and_parts, leb-true, leb-false, ltb-true, lt-ltb, le-leb, lt-leb}
use Rattle.std.proofs.lemmas.Bool.Decides.{Decides-eqb}
use Rattle.std.proofs.lemmas.Option.{none-some, same_Some}
use Rattle.jr_tree.specs.declared.label.Label.TheVariants as is
use Rattle.jr_tree.specs.Rows.{Rows, label, end, role_at}
use Rattle.jr_tree.specs.Tree.{IsTree}
use Rattle.jr_change.specs.declared.change.RowRange.{RowRange}
use Rattle.jr_locks.specs.Origins.{no_row, origin_of, row_by}
use Rattle.jr_locks.specs.Locked.{is_within}
use Rattle.jr_flow_defs.specs.Meaning.{Meaning, declared, is_local_role, local_among}
use Rattle.jr_flow_defs.specs.Acts.{siblings, children, is_loop, around, labeled_loop, break_target, continue_target}
use Rattle.jr_flow_laws.specs.Shifted.{IsIn, declares_code, least_parts, HasTarget, IsWholeBody}
use Rattle.jr_meaning.specs.Whole.{is_target, nears, has_rows, has_parts, holds_some, holds_loop_below, holds_labeled, holds_break, holds_continue, holds_target, holds_local, is_whole_at}
use Rattle.jr_meaning.specs.Kept.{rows_of}
use Rattle.jr_meaning.proofs.Nears.{nears_tell}

-- ---- the code

pub loop_below : (p : Rows) (range : RowRange) (d next : ℕ) → is_within range d ≡ true → next ≡ d + 1 → is_loop (label p next) ≡ true → is_within range next ≡ holds_loop_below p range d
loop_below p range d next inside e loop =
    ap (is_within range) e
    ∙ (sym (ap (λ b. b && is_within range (d + 1)) (ap (λ k. is_loop (label p k)) (sym e) ∙ loop)) ∙ sym (ap (λ b. if b then is_loop (label p (d + 1)) && is_within range (d + 1) else false) inside))

pub none_below : (p : Rows) (range : RowRange) (d next : ℕ) → is_within range d ≡ true → next ≡ d + 1 → is_loop (label p next) ≡ false → false ≡ holds_loop_below p range d
none_below p range d next inside e none =
    sym (ap (λ b. b && is_within range (d + 1)) (ap (λ k. is_loop (label p k)) (sym e) ∙ none)) ∙ sym (ap (λ b. if b then is_loop (label p (d + 1)) && is_within range (d + 1) else false) inside)

pub no_loop_below : (p : Rows) (range : RowRange) (d : ℕ) → is_within range d ≡ false → false ≡ holds_loop_below p range d
no_loop_below p range d none = sym (ap (λ b. if b then is_loop (label p (d + 1)) && is_within range (d + 1) else false) none)

pub within_end : (range : RowRange) (d : ℕ) → is_within range d ≡ true → d < range.end
within_end range d h = ltb-true d range.end (and_parts (nat_le range.first d) (nat_lt d range.end) h).1

pub rows_none : (p : Rows) (at stop count turn : ℕ) → turn < count → stop ≤ at → has_rows p at stop (count - turn) ≡ false
rows_none p at stop count turn lt past = at_rest (count - turn) (omega (arith, lt)) where
  at_rest : (rest : ℕ) → 0 < rest → has_rows p at stop rest ≡ false
  at_rest zero h = absurd (omega (arith, h))
  at_rest (suc rest) h = ap (λ b. if b then false else has_rows p (end p at) stop rest) (le-leb stop at past)

pub rows_next : (p : Rows) (at next stop count turn : ℕ) → turn < count → at < stop → next ≡ end p at → has_rows p at stop (count - turn) ≡ has_rows p next stop (count - (turn + 1))
rows_next p at next stop count turn lt low e = at_rest (count - turn) (count - (turn + 1)) (omega (arith, lt)) where
  at_rest : (rest left : ℕ) → rest ≡ suc left → has_rows p at stop rest ≡ has_rows p next stop left
  at_rest zero left same = absurd (omega (arith, same))
  at_rest (suc rest) left same = ap (λ b. if b then false else has_rows p (end p at) stop rest) (lt-leb stop at low)
      ∙ (ap (λ k. has_rows p k stop rest) (sym e) ∙ ap (has_rows p next stop) (let e : rest ≡ left = omega (arith, same) in e))

pub rows_done : (p : Rows) (at stop count turn : ℕ) → count ≤ turn → has_rows p at stop (count - turn) ≡ true
rows_done p at stop count turn past = ap (has_rows p at stop) (let e : count - turn ≡ 0 = omega (arith, past) in e)

-- ---- parts

module _ (p : Rows) (tree : IsTree p) where
  rows_fit : (count k stop : ℕ) → has_rows p k stop (suc count) ≡ true → k + suc count ≤ stop
  rows_fit zero k stop h = by_test (nat_le stop k) refl h where
    by_test : (b : Bool) → nat_le stop k ≡ b → (if b then false else true) ≡ true → k + 1 ≤ stop
    by_test true e h = absurd (false≢true h)
    by_test false e h = let low = leb-false stop k e in omega (arith, low)
  rows_fit (suc count) k stop h = by_test (nat_le stop k) refl h (λ g. rows_fit count (end p k) stop g) where
    by_test : (b : Bool) → nat_le stop k ≡ b → (if b then false else has_rows p (end p k) stop (suc count)) ≡ true → (has_rows p (end p k) stop (suc count) ≡ true → end p k + suc count ≤ stop)
        → k + suc (suc count) ≤ stop
    by_test true e h rest = absurd (false≢true h)
    by_test false e h rest = let fit = rest h in let more = tree.nested k in omega (arith, fit, more)

  siblings_are : (count room k stop : ℕ) → count ≤ room → has_rows p k stop count ≡ true → count ≤ length (siblings p room k stop)
  siblings_are zero room k stop fits h = omega arith
  siblings_are (suc count) zero k stop fits h = absurd (omega (arith, fits))
  siblings_are (suc count) (suc room) k stop fits h = by_test (nat_le stop k) refl h (λ g. siblings_are count room (end p k) stop (omega (arith, fits)) g) where
    some : (xs : List ℕ) → count ≤ length xs → suc count ≤ length (k ∷ xs)
    some xs h = omega (arith, h)

    by_test : (b : Bool) → nat_le stop k ≡ b → (if b then false else has_rows p (end p k) stop count) ≡ true → (has_rows p (end p k) stop count ≡ true → count ≤ length (siblings p room (end p k) stop))
        → suc count ≤ length (if nat_lt k stop then k ∷ siblings p room (end p k) stop else [])
    by_test true e h rest = absurd (false≢true h)
    by_test false e h rest = subst (λ t. suc count ≤ length (if t then k ∷ siblings p room (end p k) stop else [])) (sym (lt-ltb k stop (leb-false stop k e))) (some (siblings p room (end p k) stop) (rest h))

  pub parts_are : (n : ℕ) → has_parts p n ≡ true → least_parts (label p n) ≤ length (children p n)
  parts_are n h = by_count (least_parts (label p n)) h where
    by_count : (count : ℕ) → has_rows p (n + 1) (end p n) count ≡ true → count ≤ length (children p n)
    by_count zero h = omega arith
    by_count (suc count) h = let f = rows_fit count (n + 1) (end p n) h in siblings_are (suc count) (end p n - n) (n + 1) (end p n) (omega (arith, f)) h

-- ---- jumps and locals

row_is : (k x : ℕ) → row_by k ≡ Some x → (k ≡ x) × (x ≡ no_row → ⊥)
row_is k x e = by_test (nat_eq k no_row) (λ t. (Decides-eqb k no_row).0 t) (λ t. (Decides-eqb k no_row).1 t) e where
  by_test : (b : Bool) → (b ≡ true → k ≡ no_row) → (k ≡ no_row → b ≡ true) → (if b then None else Some k) ≡ Some x → (k ≡ x) × (x ≡ no_row → ⊥)
  by_test true t u e = absurd (none-some x e)
  by_test false t u e = let same = same_Some k x e in (same, λ none. false≢true (u (same ∙ none)))

record Holds (range : RowRange) (o : Option ℕ) : Type 0 where
  row : ℕ
  is : o ≡ Some row
  inside : is_within range row ≡ true

some_holds : (range : RowRange) (o : Option ℕ) → holds_some range o ≡ true → Holds range o
some_holds range None h = absurd (false≢true h)
some_holds range (Some x) h = record { row = x; is = refl; inside = h }

loop_holds : (p : Rows) (range : RowRange) (o : Option ℕ) → holds_labeled p range o ≡ true → Holds range (labeled_loop p o)
loop_holds p range None h = absurd (false≢true h)
loop_holds p range (Some d) h = by_test (is_within range d) h where
  by_loop : (b : Bool) → (b && is_within range (d + 1)) ≡ true → Holds range (if b then Some (d + 1) else None)
  by_loop true h = record { row = d + 1; is = refl; inside = h }
  by_loop false h = absurd (false≢true h)

  by_test : (b : Bool) → (if b then is_loop (label p (d + 1)) && is_within range (d + 1) else false) ≡ true → Holds range (labeled_loop p (Some d))
  by_test true h = by_loop (is_loop (label p (d + 1))) h
  by_test false h = absurd (false≢true h)

module _ (p : Rows) (m : Meaning) (body : ℕ) where
  abbrev range : RowRange
  range = rows_of p body

  in_of : (n : ℕ) → is_within range n ≡ true → IsIn p body n
  in_of n h = let both = and_parts (nat_le body n) (nat_lt n (end p body)) h in record { from = leb-true body n both.0; to = ltb-true n (end p body) both.1 }

  target_of : (o : Option ℕ) → Holds range o → HasTarget p body o
  target_of o h = record { row = h.row; is_target = h.is; inside = in_of h.row h.inside }

  near_target : (b : Bool) (n : ℕ) → holds_some range (row_by (origin_of (nears p b (length p)) n)) ≡ true → HasTarget p body (around p (is_target b) n n)
  near_target b n h =
      let found = some_holds range (row_by (origin_of (nears p b (length p)) n)) h in
      let row = row_is (origin_of (nears p b (length p)) n) found.row found.is in
      record { row = found.row; is_target = nears_tell p b (length p) n found.row row.0 row.1; inside = in_of found.row found.inside }

  abbrev Targets : ℕ → Type 0
  Targets n = holds_target p m (nears p true (length p)) (nears p false (length p)) range n (label p n) ≡ true

  break_is : (n : ℕ) (has_label : Bool) → holds_break m (nears p true (length p)) range n has_label ≡ true → HasTarget p body (break_target p m n has_label)
  break_is n true h = target_of (declared (m.targets n)) (some_holds range (declared (m.targets n)) h)
  break_is n false h = near_target true n h

  continue_is : (n : ℕ) (has_label : Bool) → holds_continue p m (nears p false (length p)) range n has_label ≡ true → HasTarget p body (continue_target p m n has_label)
  continue_is n true h = target_of (labeled_loop p (declared (m.targets n))) (loop_holds p range (declared (m.targets n)) h)
  continue_is n false h = near_target false n h

  breaks_are : (n : ℕ) (has_label : Bool) → Targets n → label p n ≡ is.Break has_label → HasTarget p body (break_target p m n has_label)
  breaks_are n has_label h e = break_is n has_label (sym (ap (λ l. holds_target p m (nears p true (length p)) (nears p false (length p)) range n l) e) ∙ h)

  continues_are : (n : ℕ) (has_label : Bool) → Targets n → label p n ≡ is.Continue has_label → HasTarget p body (continue_target p m n has_label)
  continues_are n has_label h e = continue_is n has_label (sym (ap (λ l. holds_target p m (nears p true (length p)) (nears p false (length p)) range n l) e) ∙ h)

  local_is : (o : Option ℕ) (d : ℕ) → holds_local p range o ≡ true → local_among p o ≡ Some d → IsIn p body d
  local_is None d h e = absurd (none-some d e)
  local_is (Some x) d h e = by_test (is_local_role (role_at p x)) h e where
    by_test : (b : Bool) → (if b then is_within range x else true) ≡ true → (if b then Some x else None) ≡ Some d → IsIn p body d
    by_test true h e = in_of d (subst (λ z. is_within range z ≡ true) (same_Some x d e) h)
    by_test false h e = absurd (none-some d e)

  pub whole_by : IsTree p → body < length p → declares_code (label p body) ≡ true
      → ((n : ℕ) → IsIn p body n → is_whole_at p m (nears p true (length p)) (nears p false (length p)) range n ≡ true) → IsWholeBody p m body
  whole_by tree few code h = record {
    tree = tree;
    few = few;
    declares = code;
    parts = λ n i. parts_are p tree n (pieces n i).0;
    breaks = λ n has_label i e. breaks_are n has_label (pieces n i).1 e;
    continues = λ n has_label i e. continues_are n has_label (pieces n i).1 e;
    locals = λ n d i e. local_is (declared (m.targets n)) d (pieces n i).2 e;
  } where
    pieces : (n : ℕ) → IsIn p body n → (has_parts p n ≡ true) × Targets n × (holds_local p range (declared (m.targets n)) ≡ true)
    pieces n i =
        let targets = holds_target p m (nears p true (length p)) (nears p false (length p)) range n (label p n) in
        let last = and_parts (has_parts p n && targets) (holds_local p range (declared (m.targets n))) (h n i) in
        let two = and_parts (has_parts p n) targets last.0 in
        (two.0, two.1, last.1)
