-- Which rows stand in a body, and where those below a row stand in the copy.
use Rattle.std.proofs.Common.{◌≡◌, refl, sym, ◌∙◌, ap, ap₂, subst, ⊎_elim, arith, ℕ, zero, suc, ◌+◌, ◌-◌, ◌<◌, ◌≤◌, Bool, true, false, ◌||◌, cond, if◌then◌else◌, List, [], ◌∷◌, map, length, filter, nat_lt, Decides}
use Rattle.std.specs.List.{AllByRecursion, list_any}
use Rattle.std.proofs.lemmas.Bool.{false≢true}
use Rattle.std.proofs.lemmas.Bool.Decides.{Decides-ltb}
use Rattle.jr_tree.specs.Rows.{Rows, label, parent, end}
use Rattle.jr_flow_defs.specs.Meaning.{Meaning}
use Rattle.jr_flow_defs.specs.Acts.{siblings, children, second, third, last_or, last}
use Rattle.jr_flow_laws.specs.Shifted.{IsIn, declares_code, least_parts, IsWholeBody, AreShiftedRows}
use Rattle.jr_flow_laws.proofs.Moving.{same_less, at_or_below}

-- ---- how many siblings there are

-- where there is one more, it stands before the end, and so many are behind it
record OneMore (p : Rows) (k stop count : ℕ) : Type 0 where
  less : k < stop
  room : ℕ
  behind : count ≤ length (siblings p room (end p k) stop)

one_more : (p : Rows) (room k stop count : ℕ) → suc count ≤ length (siblings p room k stop) → OneMore p k stop count
one_more p zero k stop count h = absurd (omega (arith, h))
one_more p (suc room) k stop count h = by_test (nat_lt k stop) (Decides-ltb k stop) h where
  by_test : (b : Bool) → Decides b (k < stop) → suc count ≤ length (if b then k ∷ siblings p room (end p k) stop else []) → OneMore p k stop count
  by_test true d h = record { less = d.0 refl; room = room; behind = omega (arith, h) }
  by_test false d h = absurd (omega (arith, h))

-- ---- filters and tests of rows that go over

filter_next : {A B : Type 0} (f : A → B) (b c : Bool) (x : A) (xs : List A) (ys : List B) → c ≡ b → ys ≡ map f xs → cond c (f x ∷ ys) ys ≡ map f (cond b (x ∷ xs) xs)
filter_next f true true x xs ys e h = ap (λ z. f x ∷ z) h
filter_next f false false x xs ys e h = h
filter_next f true false x xs ys e h = absurd (false≢true e)
filter_next f false true x xs ys e h = absurd (false≢true (sym e))

all_next : {A : Type 0} (P : A → Type 0) (b : Bool) (x : A) (xs : List A) → P x → AllByRecursion P xs → AllByRecursion P (cond b (x ∷ xs) xs)
all_next P true x xs h k = (h, k)
all_next P false x xs h k = k

module _ (P : ℕ → Type 0) (s : ℕ) (test other : ℕ → Bool) (same : (k : ℕ) → P k → other (k + s) ≡ test k) where
  pub filter_over : (rows : List ℕ) → AllByRecursion P rows → filter other (map (λ k. k + s) rows) ≡ map (λ k. k + s) (filter test rows)
  filter_over [] h = refl
  filter_over (k ∷ rows) h = filter_next (λ k. k + s) (test k) (other (k + s)) k (filter test rows) (filter other (map (λ k. k + s) rows)) (same k h.0) (filter_over rows h.1)

  pub any_over : (rows : List ℕ) → AllByRecursion P rows → list_any other (map (λ k. k + s) rows) ≡ list_any test rows
  any_over [] h = refl
  any_over (k ∷ rows) h = ap₂ (λ a b. a || b) (same k h.0) (any_over rows h.1)

pub filter_in : (P : ℕ → Type 0) (test : ℕ → Bool) (rows : List ℕ) → AllByRecursion P rows → AllByRecursion P (filter test rows)
filter_in P test [] h = tt
filter_in P test (k ∷ rows) h = all_next P (test k) k (filter test rows) h.0 (filter_in P test rows h.1)

pub last_over : (s n : ℕ) (rows : List ℕ) → last_or (n + s) (map (λ k. k + s) rows) ≡ last_or n rows + s
last_over s n [] = refl
last_over s n (k ∷ rows) = last_over s k rows

pub last_in : (P : ℕ → Type 0) (n : ℕ) (rows : List ℕ) → P n → AllByRecursion P rows → P (last_or n rows)
last_in P n [] h k = h
last_in P n (j ∷ rows) h k = last_in P j rows k.0 k.1

next_sibling : (s : ℕ) (b c : Bool) (k l : ℕ) (xs ys : List ℕ) → c ≡ b → l ≡ k + s → (b ≡ true → ys ≡ map (λ k. k + s) xs) → (if c then l ∷ ys else []) ≡ map (λ k. k + s) (if b then k ∷ xs else [])
next_sibling s true true k l xs ys e f h = ap₂ (λ a z. a ∷ z) f (h refl)
next_sibling s false false k l xs ys e f h = refl
next_sibling s true false k l xs ys e f h = absurd (false≢true e)
next_sibling s false true k l xs ys e f h = absurd (false≢true (sym e))

-- ---- rows of a body

module _ (p : Rows) (m : Meaning) (body : ℕ) (whole : IsWholeBody p m body) where
  abbrev pub In : ℕ → Type 0
  In = IsIn p body

  pub itself : In body
  itself = record { from = omega arith; to = whole.tree.nested body }

  -- it ends where the body does, or before
  pub ends_in : (n : ℕ) → In n → end p n ≤ end p body
  ends_in n i = ⊎_elim (λ less. whole.tree.apart body n less i.to) (λ e. subst (λ k. end p k ≤ end p body) e (omega arith)) (at_or_below body n i.from)

  pub below_in : (n k : ℕ) → In n → n ≤ k → k < end p n → In k
  below_in n k i low high = let e = ends_in n i in let f = i.from in record { from = omega (arith, f, low); to = omega (arith, e, high) }

  -- what is no declaration with code stands below that of the body
  pub stands_below : (n : ℕ) → In n → declares_code (label p n) ≡ false → body < n
  stands_below n i none = ⊎_elim (λ less. less) (λ e. absurd (false≢true (sym none ∙ subst (λ k. declares_code (label p k) ≡ true) e whole.declares))) (at_or_below body n i.from)

  pub few_rows : (n : ℕ) → In n → n < length p
  few_rows n i = let l = whole.tree.last body whole.few in let t = i.to in omega (arith, l, t)

  pub parent_less : (n : ℕ) → In n → body < n → parent p n < n
  parent_less n i less = whole.tree.up n (few_rows n i) (omega (arith, less))

  pub parent_in : (n : ℕ) → In n → body < n → In (parent p n)
  parent_in n i less = let u = parent_less n i less in let t = i.to in record { from = whole.tree.inner body n less i.to; to = omega (arith, u, t) }

  -- ---- the first parts

  more_parts : (n count : ℕ) → In n → suc count ≤ least_parts (label p n) → OneMore p (n + 1) (end p n) count
  more_parts n count i h = let k = whole.parts n i in one_more p (end p n - n) (n + 1) (end p n) count (omega (arith, h, k))

  pub first_in : (n : ℕ) → In n → 1 ≤ least_parts (label p n) → In (n + 1)
  first_in n i h = below_in n (n + 1) i (omega arith) (more_parts n 0 i h).less

  pub second_in : (n : ℕ) → In n → 2 ≤ least_parts (label p n) → In (end p (n + 1))
  second_in n i h = let one = more_parts n 1 i h in let two = one_more p one.room (end p (n + 1)) (end p n) 0 one.behind in let up = whole.tree.nested (n + 1) in below_in n (end p (n + 1)) i (omega (arith, up)) two.less

  pub third_in : (n : ℕ) → In n → 3 ≤ least_parts (label p n) → In (end p (end p (n + 1)))
  third_in n i h =
      let one = more_parts n 2 i h in
      let two = one_more p one.room (end p (n + 1)) (end p n) 1 one.behind in
      let three = one_more p two.room (end p (end p (n + 1))) (end p n) 0 two.behind in
      let up = whole.tree.nested (n + 1) in
      let over = whole.tree.nested (end p (n + 1)) in
      below_in n (end p (end p (n + 1))) i (omega (arith, up, over)) three.less

  -- ---- siblings

  pub siblings_in : (room k stop : ℕ) → body ≤ k → stop ≤ end p body → AllByRecursion In (siblings p room k stop)
  siblings_in zero k stop low high = tt
  siblings_in (suc room) k stop low high = by_test (nat_lt k stop) (Decides-ltb k stop)
      (λ less. let up = whole.tree.nested k in siblings_in room (end p k) stop (omega (arith, up, low)) high) where
        by_test : (b : Bool) → Decides b (k < stop) → (k < stop → AllByRecursion In (siblings p room (end p k) stop)) → AllByRecursion In (if b then k ∷ siblings p room (end p k) stop else [])
        by_test true d rest = let less = d.0 refl in (record { from = low; to = omega (arith, less, high) }, rest less)
        by_test false d rest = tt

  pub children_in : (n : ℕ) → In n → AllByRecursion In (children p n)
  children_in n i = let f = i.from in siblings_in (end p n - n) (n + 1) (end p n) (omega (arith, f)) (ends_in n i)

  pub last_row_in : (n : ℕ) → In n → In (last p n)
  last_row_in n i = last_in In n (children p n) i (children_in n i)

-- ---- rows of the copy

module _ (p q : Rows) (m w : Meaning) (body s : ℕ) (outside : ℕ → ℕ) (whole : IsWholeBody p m body) (rows : AreShiftedRows p q m w body s outside) where
  pub next_over : (n : ℕ) → n + s + 1 ≡ n + 1 + s
  next_over n = omega arith

  pub end_over : (n l : ℕ) → IsIn p body n → l ≡ n + s → end q l ≡ end p n + s
  end_over n l i e = ap (end q) e ∙ rows.ends n i

  pub label_over : (n l : ℕ) → IsIn p body n → l ≡ n + s → label q l ≡ label p n
  label_over n l i e = ap (label q) e ∙ rows.labels n i

  pub second_over : (n : ℕ) → IsIn p body (n + 1) → second q (n + s) ≡ second p n + s
  second_over n i = end_over (n + 1) (n + s + 1) i (next_over n)

  pub third_over : (n : ℕ) → IsIn p body (n + 1) → IsIn p body (end p (n + 1)) → third q (n + s) ≡ third p n + s
  third_over n i j = end_over (end p (n + 1)) (second q (n + s)) j (second_over n i)

  pub siblings_over : (room k stop : ℕ) → body ≤ k → stop ≤ end p body → siblings q room (k + s) (stop + s) ≡ map (λ j. j + s) (siblings p room k stop)
  siblings_over zero k stop low high = refl
  siblings_over (suc room) k stop low high = next_sibling s (nat_lt k stop) (nat_lt (k + s) (stop + s)) k (k + s) (siblings p room (end p k) stop) (siblings q room (end q (k + s)) (stop + s))
      (same_less s k stop) refl (λ t. let less = (Decides-ltb k stop).0 t in let up = whole.tree.nested k in
      ap (λ z. siblings q room z (stop + s)) (rows.ends k (record { from = low; to = omega (arith, less, high) })) ∙ siblings_over room (end p k) stop (omega (arith, up, low)) high)

  -- from a row of the copy to the end of another
  pub siblings_to : (n k l stop there : ℕ) → IsIn p body n → body ≤ k → stop ≤ end p body → l ≡ k + s → there ≡ stop + s
      → siblings q (end q (n + s) - (n + s)) l there ≡ map (λ j. j + s) (siblings p (end p n - n) k stop)
  siblings_to n k l stop there i low high e f = ap₂ (λ z y. siblings q (end q (n + s) - (n + s)) z y) e f ∙ (ap (λ z. siblings q z (k + s) (stop + s)) (same_room (rows.ends n i)) ∙ siblings_over (end p n - n) k stop low high) where
    same_room : end q (n + s) ≡ end p n + s → end q (n + s) - (n + s) ≡ end p n - n
    same_room e = omega (arith, e)

  pub children_over : (n : ℕ) → IsIn p body n → children q (n + s) ≡ map (λ k. k + s) (children p n)
  children_over n i = let f = i.from in siblings_to n (n + 1) (n + s + 1) (end p n) (end q (n + s)) i (omega (arith, f)) (ends_in p m body whole n i) (next_over n) (rows.ends n i)

  pub last_row_over : (n : ℕ) → IsIn p body n → last q (n + s) ≡ last p n + s
  last_row_over n i = ap (last_or (n + s)) (children_over n i) ∙ last_over s n (children p n)
