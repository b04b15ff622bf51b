-- The rows of a forest are those of trees, and the rows of a program are those of one tree.
use Rattle.std.proofs.Common.{◌≡◌, ℕ, zero, suc, ◌+◌, ◌-◌, ◌<◌, ◌≤◌, List, [], ◌∷◌, ◌++◌, length, refl, sym, ◌∙◌, ap, subst, arith, ◌⊎◌, inl, inr, length-append, add-one}
use Rattle.std.proofs.Math.ListN.{get_or, get_or-append}
use Rattle.std.proofs.lemmas.List.{get_or-append-add, get_or_past, get_or_default, append-nil}
use Rattle.jr_base.specs.declared.text.Text.{Text}
use Rattle.jr_tree.specs.declared.tree.Unit as declared_unit
use Rattle.jr_tree.specs.Mirror.Decls as d
use Rattle.jr_tree.specs.declared.label.Label.{Label}
use Rattle.jr_tree.specs.declared.label.Label.TheVariants as is
use Rattle.jr_tree.specs.declared.row.Row.{Row}
use Rattle.jr_tree.specs.Forest.{Forest, none, more, size, each}
use Rattle.jr_tree.specs.Decls.{unit_labels}
use Rattle.jr_tree.specs.Rows.{Rows, rows_from, row, parent, end, previous, program_rows}
use Rattle.jr_tree.specs.Tree.{IsTree, EachProgramIsTree}

abbrev pub nothing : Row
nothing = record { label = is.Skip; name = []; parent = 0; end = 0; previous = 0 }

abbrev pub at_index : Rows → ℕ → Row
at_index rs i = get_or rs i nothing

-- rows from the number at on, whose roots are below the row over and behind the row before
pub record Good (rs : Rows) (over before at : ℕ) : Type 0 where
  pub nested : (i : ℕ) → i < length rs → at + i < (at_index rs i).end
  pub last : (i : ℕ) → i < length rs → (at_index rs i).end ≤ at + length rs
  pub up : (i : ℕ) → i < length rs → ((at_index rs i).parent ≡ over) ⊎ ((at ≤ (at_index rs i).parent) × ((at_index rs i).parent < at + i))
  pub held : (j i : ℕ) → j < length rs → i < length rs → (at_index rs j).parent ≡ at + i → at + j < (at_index rs i).end
  pub inner : (i j : ℕ) → i < j → j < length rs → at + j < (at_index rs i).end → at + i ≤ (at_index rs j).parent
  pub apart : (i j : ℕ) → i < j → j < length rs → at + j < (at_index rs i).end → (at_index rs j).end ≤ (at_index rs i).end
  pub behind : (i : ℕ) → i < length rs → ((at_index rs i).previous ≡ before) ⊎ ((at ≤ (at_index rs i).previous) × ((at_index rs i).previous < at + i))

good_none : (over before at : ℕ) → Good [] over before at
good_none over before at = record {
  nested = λ i l. absurd (omega arith);
  last = λ i l. absurd (omega arith);
  up = λ i l. absurd (omega arith);
  held = λ j i l m e. absurd (omega arith);
  inner = λ i j l m e. absurd (omega arith);
  apart = λ i j l m e. absurd (omega arith);
  behind = λ i l. absurd (omega arith);
}

-- an index is in the first part or beyond it
which : (m i : ℕ) → (i < m) ⊎ ((k : ℕ) × (i ≡ m + k))
which m i = let w : (i < m) ⊎ (m ≤ i) = grind arith in elim w [ inl l ↦ inl l | inr g ↦ inr (i - m, omega arith) ]

module _ (xs ys : Rows) (over before after at : ℕ) (a : Good xs over before at) (b : Good ys over after (at + length xs)) (lo : at ≤ after) (hi : after < at + length xs) (low : over < at) where
  left : (i : ℕ) → i < length xs → at_index (xs ++ ys) i ≡ at_index xs i
  left i l = get_or-append xs ys nothing i l

  right : (k : ℕ) → at_index (xs ++ ys) (length xs + k) ≡ at_index ys k
  right k = get_or-append-add xs ys k nothing

  both : length (xs ++ ys) ≡ length xs + length ys
  both = length-append xs ys

  -- a fact of each row, by its number
  by_parts : (P : ℕ → Row → Type 0) → ((i : ℕ) → i < length xs → P i (at_index xs i)) → ((k : ℕ) → k < length ys → P (length xs + k) (at_index ys k))
      → (i : ℕ) → i < length (xs ++ ys) → P i (at_index (xs ++ ys) i)
  by_parts P f g i l = elim (which (length xs) i) [
    | inl m ↦ subst (λ r. P i r) (sym (left i m)) (f i m)
    | inr w ↦ (let s = both in let e = w.1 in let m : w.0 < length ys = omega arith in
        subst (λ n. P n (at_index (xs ++ ys) n)) (sym e) (subst (λ r. P (length xs + w.0) r) (sym (right w.0)) (g w.0 m)))
  ]

  pub good_both : Good (xs ++ ys) over before at
  good_both = record {
    nested = by_parts (λ i r. at + i < r.end) a.nested (λ k l. let z = b.nested k l in omega arith);
    last = by_parts (λ i r. r.end ≤ at + length (xs ++ ys)) (λ i l. let z = a.last i l in let s = both in omega arith) (λ k l. let z = b.last k l in let s = both in omega arith);
    up = by_parts (λ i r. (r.parent ≡ over) ⊎ ((at ≤ r.parent) × (r.parent < at + i))) a.up
        (λ k l. elim (b.up k l) [ inl e ↦ inl e | inr w ↦ inr (let lo = w.0 in let hi = w.1 in (omega arith, omega arith)) ]);
    held = λ j i l m. by_parts (λ j r. (i : ℕ) → i < length (xs ++ ys) → r.parent ≡ at + i → at + j < (at_index (xs ++ ys) i).end)
        (λ j l i m e. held_left j l i (a.up j l) e)
        (λ k l i m e. held_right k l i (which (length xs) i) m e (b.up k l)) j l i m;
    inner = λ i j l m. by_parts (λ j r. (i : ℕ) → i < j → at + j < (at_index (xs ++ ys) i).end → at + i ≤ r.parent)
        (λ j m i l e. a.inner i j l m (subst (λ r. at + j < r.end) (left i (omega arith)) e))
        (λ k m i l e. inner_right k m i (which (length xs) i) l e) j m i l;
    apart = λ i j l m. by_parts (λ j r. (i : ℕ) → i < j → at + j < (at_index (xs ++ ys) i).end → r.end ≤ (at_index (xs ++ ys) i).end)
        (λ j m i l e. subst (λ r. (at_index xs j).end ≤ r.end) (sym (left i (omega arith))) (a.apart i j l m (subst (λ r. at + j < r.end) (left i (omega arith)) e)))
        (λ k m i l e. apart_right k m i (which (length xs) i) l e) j m i l;
    behind = by_parts (λ i r. (r.previous ≡ before) ⊎ ((at ≤ r.previous) × (r.previous < at + i))) a.behind
        (λ k l. elim (b.behind k l) [ inl e ↦ inr (omega arith, omega arith) | inr w ↦ inr (let lo = w.0 in let hi = w.1 in (omega arith, omega arith)) ]);
  }
    where
      held_left : (j : ℕ) → j < length xs → (i : ℕ) → ((at_index xs j).parent ≡ over) ⊎ ((at ≤ (at_index xs j).parent) × ((at_index xs j).parent < at + j))
          → (at_index xs j).parent ≡ at + i → at + j < (at_index (xs ++ ys) i).end
      held_left j l i (inl q) e = absurd (omega arith)
      held_left j l i (inr w) e = let z = w.1 in let m : i < length xs = omega arith in subst (λ r. at + j < r.end) (sym (left i m)) (a.held j i l m e)

      held_right : (k : ℕ) → k < length ys → (i : ℕ) → (i < length xs) ⊎ ((k : ℕ) × (i ≡ length xs + k)) → i < length (xs ++ ys) → (at_index ys k).parent ≡ at + i
          → ((at_index ys k).parent ≡ over) ⊎ ((at + length xs ≤ (at_index ys k).parent) × ((at_index ys k).parent < at + length xs + k)) → at + (length xs + k) < (at_index (xs ++ ys) i).end
      held_right k l i side m e (inl q) = absurd (omega arith)
      held_right k l i (inl x) m e (inr v) = let z = v.0 in absurd (omega arith)
      held_right k l i (inr w) m e (inr v) = let s = both in let q = w.1 in let n : w.0 < length ys = omega arith in
          let h = b.held k w.0 l n (omega arith) in
          subst (λ n. at + (length xs + k) < (at_index (xs ++ ys) n).end) (sym q) (subst (λ r. at + (length xs + k) < r.end) (sym (right w.0)) (omega arith))

      inner_right : (k : ℕ) → k < length ys → (i : ℕ) → (i < length xs) ⊎ ((k : ℕ) × (i ≡ length xs + k)) → i < length xs + k → at + (length xs + k) < (at_index (xs ++ ys) i).end → at + i ≤ (at_index ys k).parent
      inner_right k m i (inl x) l e = let z = a.last i x in let y = subst (λ r. at + (length xs + k) < r.end) (left i x) e in absurd (omega arith)
      inner_right k m i (inr w) l e = let q = w.1 in
          let y = subst (λ n. at + (length xs + k) < (at_index (xs ++ ys) n).end) q e in
          let y' = subst (λ r. at + (length xs + k) < r.end) (right w.0) y in
          let z = b.inner w.0 k (omega arith) m (omega arith) in omega arith

      apart_right : (k : ℕ) → k < length ys → (i : ℕ) → (i < length xs) ⊎ ((k : ℕ) × (i ≡ length xs + k)) → i < length xs + k → at + (length xs + k) < (at_index (xs ++ ys) i).end
          → (at_index ys k).end ≤ (at_index (xs ++ ys) i).end
      apart_right k m i (inl x) l e = let z = a.last i x in let y = subst (λ r. at + (length xs + k) < r.end) (left i x) e in absurd (omega arith)
      apart_right k m i (inr w) l e = let q = w.1 in
          let y = subst (λ n. at + (length xs + k) < (at_index (xs ++ ys) n).end) q e in
          let y' = subst (λ r. at + (length xs + k) < r.end) (right w.0) y in
          subst (λ n. (at_index ys k).end ≤ (at_index (xs ++ ys) n).end) (sym q) (subst (λ r. (at_index ys k).end ≤ r.end) (sym (right w.0)) (b.apart w.0 k (omega arith) m (omega arith)))

-- a row over good rows
module _ (below : Rows) (l : Label) (x : Text) (over before at : ℕ) (low : over < at) (b : Good below at at (at + 1)) where
  abbrev head : Row
  head = record { label = l; name = x; parent = over; end = at + 1 + length below; previous = before }

  pub good_node : Good (head ∷ below) over before at
  good_node = record { nested = nested; last = last; up = up; held = held; inner = inner; apart = apart; behind = behind }
    where
      nested : (i : ℕ) → i < suc (length below) → at + i < (at_index (head ∷ below) i).end
      nested zero m = omega arith
      nested (suc i) m = let z = b.nested i (omega arith) in omega arith

      last : (i : ℕ) → i < suc (length below) → (at_index (head ∷ below) i).end ≤ at + suc (length below)
      last zero m = omega arith
      last (suc i) m = let z = b.last i (omega arith) in omega arith

      up : (i : ℕ) → i < suc (length below) → ((at_index (head ∷ below) i).parent ≡ over) ⊎ ((at ≤ (at_index (head ∷ below) i).parent) × ((at_index (head ∷ below) i).parent < at + i))
      up zero m = inl refl
      up (suc i) m = elim (b.up i (omega arith)) [ inl e ↦ inr (omega arith, omega arith) | inr w ↦ (let lo = w.0 in let hi = w.1 in inr (omega arith, omega arith)) ]

      held : (j i : ℕ) → j < suc (length below) → i < suc (length below) → (at_index (head ∷ below) j).parent ≡ at + i → at + j < (at_index (head ∷ below) i).end
      held zero i m k e = absurd (omega arith)
      held (suc j) zero m k e = omega arith
      held (suc j) (suc i) m k e = let z = b.held j i (omega arith) (omega arith) (omega arith) in omega arith

      inner : (i j : ℕ) → i < j → j < suc (length below) → at + j < (at_index (head ∷ below) i).end → at + i ≤ (at_index (head ∷ below) j).parent
      inner i zero k m e = absurd (omega arith)
      inner zero (suc j) k m e = elim (b.up j (omega arith)) [ inl q ↦ omega arith | inr w ↦ (let lo = w.0 in omega arith) ]
      inner (suc i) (suc j) k m e = let z = b.inner i j (omega arith) (omega arith) (omega arith) in omega arith

      apart : (i j : ℕ) → i < j → j < suc (length below) → at + j < (at_index (head ∷ below) i).end → (at_index (head ∷ below) j).end ≤ (at_index (head ∷ below) i).end
      apart i zero k m e = absurd (omega arith)
      apart zero (suc j) k m e = let z = b.last j (omega arith) in omega arith
      apart (suc i) (suc j) k m e = b.apart i j (omega arith) (omega arith) (omega arith)

      behind : (i : ℕ) → i < suc (length below) → ((at_index (head ∷ below) i).previous ≡ before) ⊎ ((at ≤ (at_index (head ∷ below) i).previous) × ((at_index (head ∷ below) i).previous < at + i))
      behind zero m = inl refl
      behind (suc i) m = elim (b.behind i (omega arith)) [ inl e ↦ inr (omega arith, omega arith) | inr w ↦ (let lo = w.0 in let hi = w.1 in inr (omega arith, omega arith)) ]

pub length_rows : (over before at : ℕ) (f : Forest) → length (rows_from over before at f) ≡ size f
length_rows over before at none = refl
length_rows over before at (more l x kids rest) =
    let s = length-append (rows_from at at (at + 1) kids) (rows_from over at (at + 1 + size kids) rest) in
    let a = length_rows at at (at + 1) kids in let b = length_rows over at (at + 1 + size kids) rest in omega arith

pub good : (f : Forest) (over before at : ℕ) → over < at → Good (rows_from over before at f) over before at
good none over before at low = good_none over before at
good (more l x kids rest) over before at low =
    let s = length_rows at at (at + 1) kids in
    let first : Good (record { label = l; name = x; parent = over; end = at + 1 + size kids; previous = before } ∷ rows_from at at (at + 1) kids) over before at
    = subst (λ n. Good (record { label = l; name = x; parent = over; end = at + 1 + n; previous = before } ∷ rows_from at at (at + 1) kids) over before at) s
    (good_node (rows_from at at (at + 1) kids) l x over before at low (good kids at at (at + 1) (omega arith))) in
    let e : at + 1 + size kids ≡ at + suc (length (rows_from at at (at + 1) kids)) = omega arith in
    let second = subst (λ n. Good (rows_from over at (at + 1 + size kids) rest) over at n) e (good rest over at (at + 1 + size kids) (omega arith)) in
    good_both (record { label = l; name = x; parent = over; end = at + 1 + size kids; previous = before } ∷ rows_from at at (at + 1) kids) (rows_from over at (at + 1 + size kids) rest)
    over before at at first second (omega arith) (omega arith) low

-- ---- the program

abbrev pub past : ℕ → Row
past n = record { label = is.Skip; name = []; parent = n; end = n + 1; previous = n }

module _ (below : Rows) (l : Label) (b : Good below 0 0 1) where
  abbrev root : Row
  root = record { label = l; name = []; parent = 0; end = 0 + 1 + length below; previous = 0 }

  abbrev rows : Rows
  rows = root ∷ below

  -- a row below the root, or past the end
  within : (i : ℕ) → i < length below → row rows (suc i) ≡ at_index below i
  within i m = get_or_default below i (past (suc i)) nothing m

  beyond : (n : ℕ) → length rows ≤ n → row rows n ≡ past n
  beyond n m = get_or_past rows n (past n) m

  side : (n : ℕ) → (n < length rows) ⊎ (length rows ≤ n)
  side n = grind arith

  inside : (n : ℕ) → n < length rows → 0 < n → (i : ℕ) × (n ≡ suc i) × (i < length below) × (row rows n ≡ at_index below i)
  inside zero m k = absurd (omega arith)
  inside (suc i) m k = (i, refl, omega arith, within i (omega arith))

  nested : (n : ℕ) → n < end rows n
  nested zero = omega arith
  nested (suc i) = elim (side (suc i)) [
    | inl m ↦ (let k : i < length below = omega arith in let e = ap (λ r. r.end) (within i k) in let z = b.nested i k in omega arith)
    | inr m ↦ (let e = ap (λ r. r.end) (beyond (suc i) m) in omega arith)
  ]

  last : (n : ℕ) → n < length rows → end rows n ≤ length rows
  last zero m = omega arith
  last (suc i) m = let k : i < length below = omega arith in let e = ap (λ r. r.end) (within i k) in let z = b.last i k in omega arith

  up : (n : ℕ) → n < length rows → 0 < n → parent rows n < n
  up zero m k = absurd (omega arith)
  up (suc i) m k = let j : i < length below = omega arith in let e = ap (λ r. r.parent) (within i j) in
      elim (b.up i j) [ inl q ↦ omega arith | inr w ↦ (let hi = w.1 in omega arith) ]

  held_below : (i q : ℕ) → i < length below → q < suc i → parent rows (suc i) ≡ q → suc i < end rows q
  held_below i zero m k e = omega arith
  held_below i (suc q) m k e = let n : q < length below = omega arith in let f = ap (λ r. r.parent) (within i m) in let g = ap (λ r. r.end) (within q n) in
      let z = b.held i q m n (omega arith) in omega arith

  held : (n : ℕ) → n < length rows → 0 < n → n < end rows (parent rows n)
  held zero m k = absurd (omega arith)
  held (suc i) m k = held_below i (parent rows (suc i)) (omega arith) (up (suc i) m k) refl

  not_past : (m n : ℕ) → m < n → n < end rows m → n < length rows
  not_past m n k e = elim (side m) [
    | inl q ↦ (let z = last m q in omega arith)
    | inr q ↦ (let z = ap (λ r. r.end) (beyond m q) in absurd (omega arith))
  ]

  inner : (m n : ℕ) → m < n → n < end rows m → m ≤ parent rows n
  inner zero n k e = omega arith
  inner (suc i) zero k e = absurd (omega arith)
  inner (suc i) (suc j) k e = let q = not_past (suc i) (suc j) k e in let mi : i < length below = omega arith in let mj : j < length below = omega arith in
      let f = ap (λ r. r.end) (within i mi) in let g = ap (λ r. r.parent) (within j mj) in
      let z = b.inner i j (omega arith) mj (omega arith) in omega arith

  apart : (m n : ℕ) → m < n → n < end rows m → end rows n ≤ end rows m
  apart m zero k e = absurd (omega arith)
  apart zero (suc j) k e = let q = not_past zero (suc j) k e in let z = last (suc j) q in omega arith
  apart (suc i) (suc j) k e = let q = not_past (suc i) (suc j) k e in let mi : i < length below = omega arith in let mj : j < length below = omega arith in
      let f = ap (λ r. r.end) (within i mi) in let g = ap (λ r. r.end) (within j mj) in
      let z = b.apart i j (omega arith) mj (omega arith) in omega arith

  before : (n : ℕ) → n < length rows → 0 < n → previous rows n < n
  before zero m k = absurd (omega arith)
  before (suc i) m k = let j : i < length below = omega arith in let e = ap (λ r. r.previous) (within i j) in
      elim (b.behind i j) [ inl q ↦ omega arith | inr w ↦ (let hi = w.1 in omega arith) ]

  pub tree_of : IsTree rows
  tree_of = record { nested = nested; last = last; root = refl; up = up; held = held; inner = inner; apart = apart; before = before }

abbrev pub units_forest : List declared_unit.Unit → Forest
units_forest units = each (λ u. unit_labels (d.plain_unit u)) units none

pub each_program_is_tree : EachProgramIsTree
each_program_is_tree units =
    let below = rows_from 0 0 1 (units_forest units) in
    let s = length_rows 0 0 1 (units_forest units) in
    let e : record { label = is.Program; name = []; parent = 0; end = 0 + 1 + length below; previous = 0 } ∷ below ≡ program_rows units
    = ap (λ n. record { label = is.Program; name = []; parent = 0; end = 0 + 1 + n; previous = 0 } ∷ below) s ∙ sym (append-nil _) in
    subst IsTree e (tree_of below is.Program (good (units_forest units) 0 0 1 (omega arith)))
