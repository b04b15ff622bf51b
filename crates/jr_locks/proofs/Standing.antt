-- Rows that stand in one run of copies end where they did.
use Rattle.std.proofs.Common.{◌≡◌, refl, sym, ◌∙◌, ap, subst, ⊎_elim, arith, ℕ, ◌+◌, ◌-◌, ◌<◌, ◌≤◌, Bool, false, List, [], ◌∷◌, ◌++◌, length}
use Rattle.std.specs.Prelude.{zero, suc, replicate}
use Rattle.std.proofs.lemmas.Bool.{cases_lt}
use Rattle.std.proofs.lemmas.List.{length-append, length-replicate, length_push, get_or-replicate, get_or_append_left, get_or-append_right, get_or_past, get_or_push}
use Rattle.jr_tree.specs.Rows.{Rows, row, label, end}
use Rattle.jr_tree.specs.Tree.{IsTree}
use Rattle.jr_defs.specs.Referents.{Table}
use Rattle.jr_change.specs.declared.change.Change.{Change}
use Rattle.jr_change.specs.declared.change.Segment.{Segment}
use Rattle.jr_change.specs.declared.change.Segment.TheVariants as segment
use Rattle.jr_locks.specs.Origins.{no_row, origin_of, run, down, of_segment, turned_in, rest_in, origins, turned, rests}
use Rattle.jr_locks.specs.Ending.{size_at, rest_at, takes_declarations, StandsInOne, StandsAgain}
use Rattle.jr_locks.specs.Copying.{turned_at, name_by, IsCopy}
use Rattle.jr_locks.specs.Changed.{IsChanged, origins_by, turned_by, rests_by}

-- ---- a run

pub run_long : (first k : ℕ) → length (run first k) ≡ k
run_long first zero = refl
run_long first (suc k) = let l = length_push (run first k) (first + k) in let m = run_long first k in omega (arith, l, m)

pub down_long : (from k : ℕ) → length (down from k) ≡ k
down_long from zero = refl
down_long from (suc k) = let l = length_push (down from k) (from - k) in let m = down_long from k in omega (arith, l, m)

pub run_at : (first k j : ℕ) → j < k → origin_of (run first k) j ≡ first + j
run_at first zero j lt = absurd (omega (arith, lt))
run_at first (suc k) j lt = ⊎_elim
    (λ less. get_or_append_left (run first k) ((first + k) ∷ []) no_row j (let l = run_long first k in omega (arith, less, l)) ∙ run_at first k j less)
    (λ here. let e : j ≡ k = omega (arith, here, lt) in
    ap (λ i. origin_of (run first k ++ (first + k) ∷ []) i) e ∙ get_or_push (run first k) (first + k) no_row k (run_long first k) ∙ ap (λ i. first + i) (sym e))
    (cases_lt j k)

pub down_at : (from k j : ℕ) → j < k → rest_at (down from k) j ≡ from - j
down_at from zero j lt = absurd (omega (arith, lt))
down_at from (suc k) j lt = ⊎_elim
    (λ less. get_or_append_left (down from k) ((from - k) ∷ []) 0 j (let l = down_long from k in omega (arith, less, l)) ∙ down_at from k j less)
    (λ here. let e : j ≡ k = omega (arith, here, lt) in
    ap (λ i. rest_at (down from k ++ (from - k) ∷ []) i) e ∙ get_or_push (down from k) (from - k) 0 k (down_long from k) ∙ ap (λ i. from - i) (sym e))
    (cases_lt j k)

-- ---- a segment

pub rest_long : (s : Segment) → length (rest_in s) ≡ length (of_segment s)
rest_long (segment.Copy a b) = down_long (b - a) (b - a) ∙ sym (run_long a (b - a))
rest_long (segment.Turned a) = refl
rest_long (segment.Glue k) = length-replicate k 0 ∙ sym (length-replicate k no_row)

turned_long : (s : Segment) → length (turned_in s) ≡ length (of_segment s)
turned_long (segment.Copy a b) = length-replicate (b - a) false ∙ sym (run_long a (b - a))
turned_long (segment.Turned a) = refl
turned_long (segment.Glue k) = length-replicate k false ∙ sym (length-replicate k no_row)

-- so many rows behind the row n its run goes on
record GoesOn (origin rests : List ℕ) (flags : List Bool) (n i : ℕ) : Type 0 where
  pub inside : n + i < length origin
  pub from : origin_of origin (n + i) ≡ origin_of origin n + i
  pub rest : rest_at rests (n + i) + i ≡ rest_at rests n
  pub kept : turned_at flags (n + i) ≡ false

run_goes_on : (first m n i : ℕ) → n < m → i < rest_at (down m m) n → GoesOn (run first m) (down m m) (replicate m false) n i
run_goes_on first m n i within less =
    let l = run_long first m in let r = down_at m m n within in let o = run_at first m n within in let b : n + i < m = omega (arith, less, r) in
    let s = down_at m m (n + i) b in let q = run_at first m (n + i) b in
    record { inside = omega (arith, b, l); from = omega (arith, q, o); rest = omega (arith, s, r, b); kept = get_or-replicate m (n + i) false false b }

one_goes_on : (s : Segment) (n i : ℕ) → n < length (of_segment s) → i < rest_at (rest_in s) n → GoesOn (of_segment s) (rest_in s) (turned_in s) n i
one_goes_on (segment.Copy a b) n i within less = run_goes_on a (b - a) n i (let l = run_long a (b - a) in omega (arith, within, l)) less
one_goes_on (segment.Turned a) zero i within less = absurd (omega (arith, less))
one_goes_on (segment.Turned a) (suc n) i within less = absurd (omega (arith, within))
one_goes_on (segment.Glue k) n i within less = let l = length-replicate k no_row in
    let e = get_or-replicate {A = ℕ} k n 0 0 (omega (arith, within, l)) in absurd (omega (arith, less, e))

-- ---- all segments

first_goes_on : (s : Segment) (more : List Segment) (n i : ℕ) → n < length (of_segment s) → i < rest_at (rest_in s ++ rests more) n
    → GoesOn (of_segment s ++ origins more) (rest_in s ++ rests more) (turned_in s ++ turned more) n i
first_goes_on s more n i within less =
    let l = rest_long s in let k = turned_long s in
    let e = get_or_append_left (rest_in s) (rests more) 0 n (omega (arith, within, l)) in
    let g = one_goes_on s n i within (omega (arith, less, e)) in
    let inside = g.inside in let long = length-append (of_segment s) (origins more) in
    record {
      inside = omega (arith, inside, long);
      from = get_or_append_left (of_segment s) (origins more) no_row (n + i) inside ∙ g.from ∙ ap (λ x. x + i) (sym (get_or_append_left (of_segment s) (origins more) no_row n within));
      rest = ap (λ x. x + i) (get_or_append_left (rest_in s) (rests more) 0 (n + i) (omega (arith, inside, l))) ∙ g.rest ∙ sym e;
      kept = get_or_append_left (turned_in s) (turned more) false (n + i) (omega (arith, inside, k)) ∙ g.kept;
    }

later_goes_on : (s : Segment) (more : List Segment) (n m i : ℕ) → n ≡ length (of_segment s) + m → GoesOn (origins more) (rests more) (turned more) m i
    → GoesOn (of_segment s ++ origins more) (rest_in s ++ rests more) (turned_in s ++ turned more) n i
later_goes_on s more n m i is g =
    let same : (n + i) - length (of_segment s) ≡ m + i = omega (arith, is) in
    let here : n - length (of_segment s) ≡ m = omega (arith, is) in
    let past : length (of_segment s) ≤ n = omega (arith, is) in
    let later : length (of_segment s) ≤ n + i = omega (arith, is) in
    let inside = g.inside in let long = length-append (of_segment s) (origins more) in
    record {
      inside = omega (arith, inside, long, is);
      from = get_or-append_right (of_segment s) (origins more) (length (of_segment s)) (n + i) no_row refl later ∙ ap (λ x. origin_of (origins more) x) same ∙ g.from
          ∙ ap (λ x. x + i) (sym (get_or-append_right (of_segment s) (origins more) (length (of_segment s)) n no_row refl past ∙ ap (λ x. origin_of (origins more) x) here));
      rest = ap (λ x. x + i) (get_or-append_right (rest_in s) (rests more) (length (of_segment s)) (n + i) 0 (rest_long s) later ∙ ap (λ x. rest_at (rests more) x) same) ∙ g.rest
          ∙ sym (get_or-append_right (rest_in s) (rests more) (length (of_segment s)) n 0 (rest_long s) past ∙ ap (λ x. rest_at (rests more) x) here);
      kept = get_or-append_right (turned_in s) (turned more) (length (of_segment s)) (n + i) false (turned_long s) later ∙ ap (λ x. turned_at (turned more) x) same ∙ g.kept;
    }

goes_on : (segments : List Segment) (n i : ℕ) → i < rest_at (rests segments) n → GoesOn (origins segments) (rests segments) (turned segments) n i
goes_on [] n i less = let e : rest_at [] n ≡ 0 = get_or_past [] n 0 (omega arith) in absurd (omega (arith, less, e))
goes_on (s ∷ more) n i less = ⊎_elim
    (λ within. first_goes_on s more n i within less)
    (λ past. let e = get_or-append_right (rest_in s) (rests more) (length (of_segment s)) n 0 (rest_long s) past in
    later_goes_on s more n (n - length (of_segment s)) i (omega (arith, past)) (goes_on more (n - length (of_segment s)) i (omega (arith, less, e))))
    (cases_lt n (length (of_segment s)))

-- ---- a row with all below it

pub each_origin : (old : Rows) (change : Change) (d n : ℕ) → StandsInOne old (origins_by change) (rests_by change) d n → (i : ℕ) → i < size_at old d → origin_of (origins_by change) (n + i) ≡ d + i
each_origin old change d n one i lt = let a = one.all in (goes_on change.segments.items n i (omega (arith, a, lt))).from ∙ ap (λ x. x + i) one.first

module _ (old : Rows) (t : Table) (change : Change) (rows : Rows) (locks : Table) (h : IsChanged old t change rows locks) (here : IsTree old) (there : IsTree rows) (fits : length old ≤ no_row)
    (d at : ℕ) (stood : d < length old) (closed : takes_declarations (label old d) ≡ false) (one : StandsInOne old (origins_by change) (rests_by change) d at) where
  goes : (m i : ℕ) → m ≡ d + i → m < end old d → GoesOn (origins_by change) (rests_by change) (turned_by change) at i
  goes m i is lt = let a = one.all in goes_on change.segments.items at i (omega (arith, a, is, lt))

  inside : (m i : ℕ) → m ≡ d + i → m < end old d → at + i < length rows
  inside m i is lt = let g = (goes m i is lt).inside in let c = h.count in omega (arith, g, c)

  copy_of : (m i : ℕ) → m ≡ d + i → m < end old d → IsCopy old (name_by change.namings.items) m false (rest_at (rests_by change) (at + i)) (at + i) (row rows (at + i))
  copy_of m i is lt =
      let g = goes m i is lt in
      let from : origin_of (origins_by change) (at + i) ≡ m = g.from ∙ ap (λ x. x + i) one.first ∙ sym is in
      let last = here.last d stood in
      subst (λ x. IsCopy old (name_by change.namings.items) x false (rest_at (rests_by change) (at + i)) (at + i) (row rows (at + i))) from
      (subst (λ b. IsCopy old (name_by change.namings.items) (origin_of (origins_by change) (at + i)) b (rest_at (rests_by change) (at + i)) (at + i) (row rows (at + i))) g.kept
      (h.copied.each (at + i) (inside m i is lt) (λ none. absurd (omega (arith, from, none, lt, last, fits)))))

  root : end rows at + d ≡ end old d + at
  root = let e : at + 0 ≡ at = omega arith in let n = here.nested d in let m = there.nested at in
      let s : size_at rows at ≡ size_at old d = subst (λ x. size_at rows x ≡ size_at old d) e
      ((copy_of d 0 (omega arith) n).end_is.at_end closed (let a = one.all in let r = (goes d 0 (omega arith) n).rest in omega (arith, a, r))) in
      omega (arith, s, n, m)

  -- what ends before the run, and what ends with it
  end_by : (m i : ℕ) → m ≡ d + i → m < end old d → end old m ≤ end old d → end rows (at + i) ≤ end rows at → end rows (at + i) + d ≡ end old m + at
  end_by m i is lt low high =
      let c = (copy_of m i is lt).end_is in let r = (goes m i is lt).rest in let a = one.all in let n = here.nested m in let o = there.nested (at + i) in let whole = root in ⊎_elim
      (λ less. let s = c.before less in omega (arith, s, n, o, is))
      (λ past. let s = c.beyond past in omega (arith, s, n, o, is, past, low, high, r, a, whole))
      (cases_lt (size_at old m) (rest_at (rests_by change) (at + i)))

  each_end : (m i : ℕ) → m ≡ d + i → m < end old d → end rows (at + i) + d ≡ end old m + at
  each_end m zero is lt = let e : at + 0 ≡ at = omega arith in let f : d ≡ m = omega (arith, is) in
      subst (λ x. end rows x + d ≡ end old m + at) (sym e) (subst (λ x. end rows at + d ≡ end old x + at) f root)
  each_end m (suc i) is lt = let whole = root in
      end_by m (suc i) is lt (here.apart d m (omega (arith, is)) lt) (there.apart at (at + suc i) (omega arith) (omega (arith, whole, is, lt)))

  pub stands_again : StandsAgain old rows d at
  stands_again = record {
    few = let n = here.nested d in let e : at + 0 ≡ at = omega arith in let whole = root in
        let l = there.last at (let b = inside d 0 (omega arith) n in omega (arith, b)) in omega (arith, l, n, whole);
    labels = λ i lt. (copy_of (d + i) i refl (omega (arith, lt))).label_is refl;
    ends = λ i lt. each_end (d + i) i refl (omega (arith, lt));
  }

-- ---- so many rows on

-- the body of a declaration that stands again so many rows on
module _ (p q : Rows) (body shift : ℕ) (again : StandsAgain p q body (body + shift)) where
  by_number : (n : ℕ) → body ≤ n → body + (n - body) ≡ n
  by_number n from = omega (arith, from)

  behind : (n : ℕ) → body ≤ n → (body + shift) + (n - body) ≡ n + shift
  behind n from = omega (arith, from)

  pub on_few : body < end p body → end p body + shift ≤ length q
  on_few some = let f = again.few in omega (arith, f, some)

  pub on_labels : (n : ℕ) → body ≤ n → n < end p body → label q (n + shift) ≡ label p n
  on_labels n from to = subst (λ x. label q x ≡ label p n) (behind n from)
      (subst (λ x. label q ((body + shift) + (n - body)) ≡ label p x) (by_number n from) (again.labels (n - body) (omega (arith, from, to))))

  pub on_ends : (n : ℕ) → body ≤ n → n < end p body → end q (n + shift) ≡ end p n + shift
  on_ends n from to = let e : end q (n + shift) + body ≡ end p n + (body + shift) =
      subst (λ x. end q x + body ≡ end p n + (body + shift)) (behind n from)
      (subst (λ x. end q ((body + shift) + (n - body)) + body ≡ end p x + (body + shift)) (by_number n from) (again.ends (n - body) (omega (arith, from, to)))) in
      omega (arith, e)

-- and what stands again is that of which it is a copy, standing again
pub again_back : (p q : Rows) (d n : ℕ) → IsTree p → IsTree q → d < length p → StandsAgain p q d n → StandsAgain q p n d
again_back p q d n here there stood h = record {
  few = omega (arith, size, last, one);
  labels = λ i lt. sym (h.labels i (omega (arith, lt, size)));
  ends = λ i lt. sym (h.ends i (omega (arith, lt, size)));
}
  where
    one : d < end p d
    one = here.nested d

    last : end p d ≤ length p
    last = here.last d stood

    first : end q n + d ≡ end p d + n
    first = let e : n + 0 ≡ n = omega arith in let f : d + 0 ≡ d = omega arith in
        subst (λ x. end q x + d ≡ end p d + n) e (subst (λ x. end q (n + 0) + d ≡ end p x + n) f (h.ends 0 (omega (arith, one))))

    size : size_at q n ≡ size_at p d
    size = let m = there.nested n in omega (arith, first, one, m)
