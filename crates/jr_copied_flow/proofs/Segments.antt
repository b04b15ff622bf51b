-- Rows that stand in one segment have their copies in one run, and no others.
use Rattle.std.proofs.Common.{◌≡◌, refl, sym, ◌∙◌, ap, ⊎_elim, arith, ℕ, zero, suc, ◌+◌, ◌-◌, ◌<◌, ◌≤◌, Bool, true, false, List, [], ◌∷◌, ◌++◌, length, Option, None}
use Rattle.std.specs.List.{AllByRecursion}
use Rattle.std.proofs.lemmas.Bool.{cases_lt}
use Rattle.std.proofs.lemmas.List.{length-append, length-replicate, get_or-replicate, get_or_append_left, get_or-append_right, get_or_past}
use Rattle.jr_tree.specs.Rows.{Rows, end}
use Rattle.jr_tree.specs.Tree.{IsTree}
use Rattle.jr_change.specs.declared.change.Change.{Change}
use Rattle.jr_change.specs.declared.change.RowRange.{RowRange}
use Rattle.jr_change.specs.declared.change.Segment.{Segment}
use Rattle.jr_change.specs.declared.change.Segment.TheVariants as segment
use Rattle.jr_locks.specs.Origins.{no_row, origin_of, run, of_segment, rest_in, origins, rests}
use Rattle.jr_locks.specs.Ending.{rest_at, StandsInOne}
use Rattle.jr_locks.specs.Locked.{is_in, is_added}
use Rattle.jr_locks.specs.Changed.{origins_by, rests_by}
use Rattle.jr_locks.proofs.Standing.{run_long, run_at, down_at, rest_long, each_origin}
use Rattle.jr_flow_laws.specs.Shifted.{IsIn}
use Rattle.jr_copied_flow.specs.Alone.{copy_in, IsLeftAlone}
use Rattle.jr_copied_flow.specs.Segments.{HasNoneOf, AreInOne, place_of, SaysOfNew}

-- ---- behind other segments

origin_behind : (before : List Segment) (s : Segment) (more : List Segment) (j : ℕ) → j < length (of_segment s) → origin_of (origins (before ++ s ∷ more)) (length (origins before) + j) ≡ origin_of (of_segment s) j
origin_behind [] s more j less = let e : 0 + j ≡ j = omega arith in ap (λ x. origin_of (of_segment s ++ origins more) x) e ∙ get_or_append_left (of_segment s) (origins more) no_row j less
origin_behind (b ∷ before) s more j less =
    let long = length-append (of_segment b) (origins before) in
    let here : length (of_segment b ++ origins before) + j - length (of_segment b) ≡ length (origins before) + j = omega (arith, long) in
    get_or-append_right (of_segment b) (origins (before ++ s ∷ more)) (length (of_segment b)) (length (of_segment b ++ origins before) + j) no_row refl (omega (arith, long))
    ∙ (ap (λ x. origin_of (origins (before ++ s ∷ more)) x) here ∙ origin_behind before s more j less)

rest_behind : (before : List Segment) (s : Segment) (more : List Segment) (j : ℕ) → j < length (of_segment s) → rest_at (rests (before ++ s ∷ more)) (length (origins before) + j) ≡ rest_at (rest_in s) j
rest_behind [] s more j less = let e : 0 + j ≡ j = omega arith in ap (λ x. rest_at (rest_in s ++ rests more) x) e ∙ get_or_append_left (rest_in s) (rests more) 0 j (let l = rest_long s in omega (arith, less, l))
rest_behind (b ∷ before) s more j less =
    let long = length-append (of_segment b) (origins before) in
    let here : length (of_segment b ++ origins before) + j - length (of_segment b) ≡ length (origins before) + j = omega (arith, long) in
    get_or-append_right (rest_in b) (rests (before ++ s ∷ more)) (length (of_segment b)) (length (of_segment b ++ origins before) + j) 0 (rest_long b) (omega (arith, long))
    ∙ (ap (λ x. rest_at (rests (before ++ s ∷ more)) x) here ∙ rest_behind before s more j less)

-- ---- no other copies

module _ (first end : ℕ) (fits : end ≤ no_row) (n : ℕ) (low : first ≤ n) (high : n < end) where
  none_in : (s : Segment) → HasNoneOf first end s → (k : ℕ) → k < length (of_segment s) → origin_of (of_segment s) k ≡ n → ⊥
  none_in (segment.Copy a b) apart k less e = let l = run_long a (b - a) in let r = run_at a (b - a) k (omega (arith, less, l)) in
      ⊎_elim (λ before. omega (arith, before, r, e, low, less, l)) (λ behind. omega (arith, behind, r, e, high)) apart
  none_in (segment.Turned a) apart zero less e = ⊎_elim (λ before. omega (arith, before, e, low)) (λ behind. omega (arith, behind, e, high)) apart
  none_in (segment.Turned a) apart (suc k) less e = omega (arith, less)
  none_in (segment.Glue k) apart j less e = let l = length-replicate k no_row in let r = get_or-replicate {A = ℕ} k j no_row no_row (omega (arith, less, l)) in omega (arith, r, e, high, fits)

  none_at : (all : List Segment) → AllByRecursion (HasNoneOf first end) all → (k : ℕ) → origin_of (origins all) k ≡ n → ⊥
  none_at [] apart k e = let r : origin_of [] k ≡ no_row = get_or_past [] k no_row (omega arith) in omega (arith, r, e, high, fits)
  none_at (s ∷ all) apart k e = ⊎_elim
      (λ less. none_in s apart.0 k less (sym (get_or_append_left (of_segment s) (origins all) no_row k less) ∙ e))
      (λ past. none_at all apart.1 (k - length (of_segment s)) (sym (get_or-append_right (of_segment s) (origins all) (length (of_segment s)) k no_row refl past) ∙ e))
      (cases_lt k (length (of_segment s)))

  once_at : (before : List Segment) (from to : ℕ) (behind : List Segment) → AllByRecursion (HasNoneOf first end) before → AllByRecursion (HasNoneOf first end) behind
      → (k : ℕ) → origin_of (origins (before ++ segment.Copy from to ∷ behind)) k ≡ n → k + from ≡ length (origins before) + n
  once_at [] from to behind apart apart_behind k e = let l = run_long from (to - from) in ⊎_elim
      (λ less. let r = run_at from (to - from) k (omega (arith, less, l)) in let o = get_or_append_left (run from (to - from)) (origins behind) no_row k less in omega (arith, r, o, e))
      (λ past. absurd (none_at behind apart_behind (k - length (run from (to - from))) (sym (get_or-append_right (run from (to - from)) (origins behind) (length (run from (to - from))) k no_row refl past) ∙ e)))
      (cases_lt k (length (run from (to - from))))
  once_at (s ∷ before) from to behind apart apart_behind k e = ⊎_elim
      (λ less. absurd (none_in s apart.0 k less (sym (get_or_append_left (of_segment s) (origins (before ++ segment.Copy from to ∷ behind)) no_row k less) ∙ e)))
      (λ past. let r = once_at before from to behind apart.1 apart_behind (k - length (of_segment s))
      (sym (get_or-append_right (of_segment s) (origins (before ++ segment.Copy from to ∷ behind)) (length (of_segment s)) k no_row refl past) ∙ e) in
      let long = length-append (of_segment s) (origins before) in omega (arith, r, long, past))
      (cases_lt k (length (of_segment s)))

-- ---- a body

true_or_false : (b : Bool) → (b ≡ true → ⊥) → b ≡ false
true_or_false true none = absurd (none refl)
true_or_false false none = refl

nowhere_in : (inner : Option RowRange) → inner ≡ None → (n : ℕ) → is_in inner n ≡ false
nowhere_in inner e n = ap (λ z. is_in z n) e

module _ (p : Rows) (change : Change) (body : ℕ) (here : IsTree p) (fits : length p ≤ no_row) (stood : body < length p) (new : SaysOfNew change) (one : AreInOne change.segments.items body (end p body)) where
  abbrev at : ℕ
  at = place_of one

  last : end p body ≤ length p
  last = here.last body stood

  some : body < end p body
  some = here.nested body

  within : body - one.from < length (of_segment (segment.Copy one.from one.to))
  within = let l = run_long one.from (one.to - one.from) in let low = one.low in let high = one.high in omega (arith, l, low, high, some)

  in_run : body - one.from < one.to - one.from
  in_run = let low = one.low in let high = one.high in omega (arith, low, high, some)

  in_one : StandsInOne p (origins_by change) (rests_by change) body at
  in_one = record {
    first = let low = one.low in let back : one.from + (body - one.from) ≡ body = omega (arith, low) in
        ap (λ z. origin_of (origins z) at) one.are ∙ (origin_behind one.before (segment.Copy one.from one.to) one.behind (body - one.from) within ∙ (run_at one.from (one.to - one.from) (body - one.from) in_run ∙ back));
    all = let low = one.low in let high = one.high in
        let e = ap (λ z. rest_at (rests z) at) one.are ∙ (rest_behind one.before (segment.Copy one.from one.to) one.behind (body - one.from) within ∙ down_at (one.to - one.from) (one.to - one.from) (body - one.from) in_run) in
        omega (arith, e, low, high);
  }

  only_once : (n k : ℕ) → IsIn p body n → origin_of (origins_by change) k ≡ n → k ≡ copy_in body at n
  only_once n k i e = let r = once_at body (end p body) (omega (arith, last, fits)) n i.from i.to one.before one.from one.to one.behind one.apart one.apart_behind k (sym (ap (λ z. origin_of (origins z) k) one.are) ∙ e) in
      let low = one.low in let f = i.from in omega (arith, r, low, f)

  copy_from : (n : ℕ) → IsIn p body n → origin_of (origins_by change) (copy_in body at n) ≡ n
  copy_from n i = let f = i.from in let t = i.to in let back : body + (n - body) ≡ n = omega (arith, f) in each_origin p change body at in_one (n - body) (omega (arith, f, t)) ∙ back

  pub left_alone : IsLeftAlone p change body at
  left_alone = record {
    one = in_one;
    once = only_once;
    beside = λ n i. nowhere_in change.inner new.nowhere (copy_in body at n) ∙ sym (nowhere_in change.inner new.nowhere at);
    unsaid = λ n i. true_or_false (is_added change.added.items (copy_in body at n)) (λ t. let o = copy_from n i in let none = new.only (copy_in body at n) t in let to = i.to in omega (arith, o, none, to, last, fits));
  }
