-- The table of acts has those of each row.
use Rattle.std.proofs.Common.{◌≡◌, ◌⊎◌, inl, inr, ⊎_elim, refl, sym, ◌∙◌, ap, ap₂, subst, arith, ℕ, zero, suc, ◌+◌, ◌-◌, ◌*◌, ◌^◌, ◌<◌, ◌≤◌, Bool, true, false, not, ◌&&◌, if◌then◌else◌, List, [], ◌∷◌, ◌++◌, length, drop, length-append, append_assoc, append-nil, Option, Some, None, Result, OnOk, nat_eq, nat_lt, unwrap_or, get_or, slice_get, slice_set}
use Rattle.std.proofs.lemmas.Bool.{lt-ltb, ltb-true, false≢true, cases_lt, cases_eq, and_parts}
use Rattle.std.proofs.lemmas.Bool.Decides.{Decides-eqb}
use Rattle.std.proofs.lemmas.List.{drop_all}
use Rattle.std.proofs.lemmas.Option.{none-some, same_Some, slice_get_past}
use Rattle.std.proofs.lemmas.Result.{on_ok_weaker}
use Rattle.jr_tree.specs.declared.label.Label.{Label}
use Rattle.jr_tree.specs.declared.label.Label.TheVariants as is
use Rattle.jr_tree.specs.declared.row.Row.{Row}
use Rattle.jr_tree.specs.Rows.{Rows, row, label, parent, end}
use Rattle.jr_tree.specs.Tree.{IsTree}
use Rattle.jr_plain.proofs.Bounds.{row_past, parent_past}
use Rattle.jr_flow_defs.specs.Meaning.{Meaning}
use Rattle.jr_flow_defs.specs.Acts.{Act, part, event, node, define, use_of, quit, fork, choose, go, jump, acts, acts_by, last}
use Rattle.jr_flow_defs.specs.States.{behind, is_part}
use Rattle.jr_flow.specs.declared.code.Code.{Code}
use Rattle.jr_flow.specs.Seen.{seen}
use Rattle.jr_flow.specs.Coded.{item, between, count_of, act_between, act_of, IsCodeOf, written, starts, AreWritten, AreTold, lasts_from, counts_from, placed, placed_all, placed_rows}
use Rattle.jr_flow.proofs.Gets.{front_get, behind_get, got, get_set_same, get_set_other, set_length}

add-comm : (a b : ℕ) → a + b ≡ b + a
add-comm a b = omega arith

add-zero : (a : ℕ) → a + 0 ≡ a
add-zero a = omega arith

zero_before : (a : ℕ) → a ≡ 0 + a
zero_before a = omega arith

-- ---- rows that are few

-- the row at a number below the length
pub read_row : (p : Rows) (n : ℕ) (r d : Row) → n < length p → r ≡ get_or p n r → get_or p n d ≡ r
read_row [] n r d lt same = absurd (omega (arith, lt))
read_row (x ∷ p) zero r d lt same = sym same
read_row (x ∷ p) (suc n) r d lt same = read_row p n r d (omega (arith, lt)) same

pub end_past : (p : Rows) (n : ℕ) → length p ≤ n → end p n ≡ n + 1
end_past p n le = ap (λ r. r.end) (row_past p n le)

pub end_few : (p : Rows) (n : ℕ) → IsTree p → length p + 3 < 2 ^ 32 → n < length p → end p (n + 1) + 1 < 2 ^ 32
end_few p n tree few lt = ⊎_elim (λ inside. let le = tree.last (n + 1) inside in omega (arith, le, few)) (λ past. let e = end_past p (n + 1) past in omega (arith, e, few, lt)) (cases_lt (n + 1) (length p))

pub parent_few : (p : Rows) (end n : ℕ) → IsTree p → length p + 3 < 2 ^ 32 → end ≤ length p → n < end → parent p n + 1 < 2 ^ 32
parent_few p end zero tree few le lt = let e = tree.root in omega (arith, e)
parent_few p end (suc n) tree few le lt = let up = tree.up (suc n) (omega (arith, lt, le)) (omega arith) in omega (arith, up, lt, le, few)

-- ---- acts one row after the other

count_left : (from n : ℕ) → n < from → from - n ≡ suc (from - (n + 1))
count_left from n lt = omega (arith, lt)

pub written_next : (p : Rows) (m : Meaning) (n end : ℕ) → n < end → written p m n (end - n) ≡ acts p m n ++ written p m (n + 1) (end - (n + 1))
written_next p m n end lt = ap (written p m n) (count_left end n lt)

pub starts_next : (p : Rows) (m : Meaning) (before n end : ℕ) → n < end → starts p m before n (end - n) ≡ before ∷ starts p m (before + length (acts p m n)) (n + 1) (end - (n + 1))
starts_next p m before n end lt = ap (starts p m before n) (count_left end n lt)

-- what was written so far and what follows
pub record IsWriting (p : Rows) (m : Meaning) (from n end : ℕ) (old new : List Act) (before behind : List ℕ) : Type 0 where
  pub acts_are : new ++ written p m n (end - n) ≡ old ++ written p m from (end - from)
  pub firsts_are : behind ++ starts p m (length new) n (end - n) ≡ before ++ starts p m (length old) from (end - from)

pub writing_next : (p : Rows) (m : Meaning) (from n end : ℕ) (old mid new : List Act) (before among behind : List ℕ) → n < end → IsWriting p m from n end old mid before among
    → new ≡ mid ++ acts p m n → behind ≡ among ++ length mid ∷ [] → IsWriting p m from (n + 1) end old new before behind
writing_next p m from n end old mid new before among behind lt h e f = record {
  acts_are = ap (λ xs. xs ++ written p m (n + 1) (end - (n + 1))) e ∙ append_assoc mid (acts p m n) (written p m (n + 1) (end - (n + 1))) ∙ ap (λ xs. mid ++ xs) (sym (written_next p m n end lt)) ∙ h.acts_are;
  firsts_are = ap (λ xs. xs ++ starts p m (length new) (n + 1) (end - (n + 1))) f ∙ append_assoc among (length mid ∷ []) (starts p m (length new) (n + 1) (end - (n + 1)))
      ∙ ap (λ k. among ++ length mid ∷ starts p m k (n + 1) (end - (n + 1))) (ap length e ∙ length-append mid (acts p m n))
      ∙ ap (λ xs. among ++ xs) (sym (starts_next p m (length mid) n end lt)) ∙ h.firsts_are;
}

pub writing_ends : (p : Rows) (m : Meaning) (from n end : ℕ) (old new : List Act) (before among behind : List ℕ) → end ≤ n → IsWriting p m from n end old new before among
    → behind ≡ among ++ length new ∷ [] → AreWritten p m from (end - from) old new before behind
writing_ends p m from n end old new before among behind le h f = let zero_left : end - n ≡ 0 = omega (arith, le) in record {
  acts_are = sym (append-nil new) ∙ ap (λ k. new ++ written p m n k) (sym zero_left) ∙ h.acts_are;
  firsts_are = f ∙ ap (λ k. among ++ starts p m (length new) n k) (sym zero_left) ∙ h.firsts_are;
}

-- where nothing was written before
pub written_begun : (p : Rows) (m : Meaning) (from count other : ℕ) (old new : List Act) (before behind : List ℕ) → AreWritten p m from count old new before behind → count ≡ other → old ≡ [] → before ≡ [] → AreWritten p m from other [] new [] behind
written_begun p m from count other old new before behind h e f g = subst (λ k. AreWritten p m from k [] new [] behind) e (subst (λ xs. AreWritten p m from count xs new [] behind) f (subst (λ xs. AreWritten p m from count old new xs behind) g h))

-- ---- what the numbers say

pub start_of : (p : Rows) (m : Meaning) (before n count k : ℕ) → k ≤ count → slice_get (starts p m before n count) k ≡ Some (before + length (written p m n k))
start_of p m before n zero zero le = let e : before ≡ before + 0 = omega arith in ap Some e
start_of p m before n zero (suc k) le = absurd (omega (arith, le))
start_of p m before n (suc count) zero le = let e : before ≡ before + 0 = omega arith in ap Some e
start_of p m before n (suc count) (suc k) le =
    let l : length (written p m n (suc k)) ≡ length (acts p m n) + length (written p m (n + 1) k) = length-append (acts p m n) (written p m (n + 1) k) in
    let e : before + length (acts p m n) + length (written p m (n + 1) k) ≡ before + length (written p m n (suc k)) = omega (arith, l) in
    start_of p m (before + length (acts p m n)) (n + 1) count k (omega (arith, le)) ∙ ap Some e

pub written_more : (p : Rows) (m : Meaning) (n k : ℕ) → length (written p m n (k + 1)) ≡ length (written p m n k) + length (acts p m (n + k))
written_more p m n zero =
    let e : n ≡ n + 0 = omega arith in
    let one : length (written p m n (zero + 1)) ≡ length (acts p m n) = ap length (append-nil (acts p m n)) in
    let same : length (acts p m n) ≡ length (acts p m (n + 0)) = ap (λ j. length (acts p m j)) e in
    omega (arith, one, same)
written_more p m n (suc k) =
    let one : suc k + 1 ≡ suc (k + 1) = omega arith in
    let long : length (written p m n (suc k + 1)) ≡ length (acts p m n) + length (written p m (n + 1) (k + 1)) = ap (λ j. length (written p m n j)) one ∙ length-append (acts p m n) (written p m (n + 1) (k + 1)) in
    let short : length (written p m n (suc k)) ≡ length (acts p m n) + length (written p m (n + 1) k) = length-append (acts p m n) (written p m (n + 1) k) in
    let rest : length (written p m (n + 1) (k + 1)) ≡ length (written p m (n + 1) k) + length (acts p m (n + 1 + k)) = written_more p m (n + 1) k in
    let at : n + 1 + k ≡ n + suc k = omega arith in
    let same : length (acts p m (n + 1 + k)) ≡ length (acts p m (n + suc k)) = ap (λ j. length (acts p m j)) at in
    omega (arith, long, short, rest, same)

pub act_in_written : (p : Rows) (m : Meaning) (n count k i : ℕ) → k < count → i < length (acts p m (n + k)) → slice_get (written p m n count) (length (written p m n k) + i) ≡ slice_get (acts p m (n + k)) i
act_in_written p m n zero k i lt in_row = absurd (omega (arith, lt))
act_in_written p m n (suc count) zero i lt in_row = let e : n + 0 ≡ n = omega arith in
    ap (slice_get (acts p m n ++ written p m (n + 1) count)) (sym (zero_before i)) ∙ front_get (acts p m n) (written p m (n + 1) count) i (subst (λ j. i < length (acts p m j)) e in_row) ∙ ap (λ j. slice_get (acts p m j) i) (sym e)
act_in_written p m n (suc count) (suc k) i lt in_row = let at : n + suc k ≡ n + 1 + k = omega arith in
    behind_get (acts p m n) (written p m (n + 1) count) (length (written p m n (suc k)) + i) (length (written p m (n + 1) k) + i)
    (ap (λ l. l + i) (length-append (acts p m n) (written p m (n + 1) k)) ∙ regroup (length (acts p m n)) (length (written p m (n + 1) k)) i)
    ∙ act_in_written p m (n + 1) count k i (omega (arith, lt)) (subst (λ j. i < length (acts p m j)) at in_row)
    ∙ ap (λ j. slice_get (acts p m j) i) (sym at)
  where
    regroup : (a b c : ℕ) → a + b + c ≡ a + (b + c)
    regroup a b c = omega arith

item_at : (all : List ℕ) (body k : ℕ) → item all body (body + k) ≡ slice_get all k
item_at all body k = by (nat_lt (body + k) body) refl
  where
    by : (b : Bool) → nat_lt (body + k) body ≡ b → (if b then None else slice_get all (body + k - body)) ≡ slice_get all k
    by true e = let lt = ltb-true (body + k) body e in absurd (omega (arith, lt))
    by false e = let same : body + k - body ≡ k = omega arith in ap (slice_get all) same

pub all_told : (p : Rows) (m : Meaning) (body count : ℕ) (all : List Act) (firsts : List ℕ) → AreWritten p m body count [] all [] firsts → AreTold p m body count all firsts
all_told p m body count all firsts h = record { counts = counts; first = first }
  where
    begun : (k : ℕ) → k ≤ count → item firsts body (body + k) ≡ Some (length (written p m body k))
    begun k le = item_at firsts body k ∙ ap (λ xs. slice_get xs k) h.firsts_are ∙ start_of p m 0 body count k le ∙ ap Some (sym (zero_before (length (written p m body k))))

    counts : (k : ℕ) → k < count → count_of firsts body (body + k) ≡ length (acts p m (body + k))
    counts k lt = let next : body + k + 1 ≡ body + (k + 1) = omega arith in
        let l : length (written p m body (k + 1)) ≡ length (written p m body k) + length (acts p m (body + k)) = written_more p m body k in
        let e : length (written p m body (k + 1)) - length (written p m body k) ≡ length (acts p m (body + k)) = omega (arith, l) in
        ap₂ between (begun k (omega (arith, lt))) (ap (item firsts body) next ∙ begun (k + 1) (omega (arith, lt))) ∙ e

    first : (k : ℕ) → k < count → (first : ℕ) × (item firsts body (body + k) ≡ Some first) × ((i : ℕ) → i < length (acts p m (body + k)) → slice_get all (first + i) ≡ slice_get (acts p m (body + k)) i)
    first k lt = (length (written p m body k), begun k (omega (arith, lt)), λ i in_row. ap (λ xs. slice_get xs (length (written p m body k) + i)) h.acts_are ∙ act_in_written p m body count k i lt in_row)

-- each act of a row, and none past the last
not_less : (i n size : ℕ) → nat_lt i n ≡ false → n ≡ size → size ≤ i
not_less i n size less e = ⊎_elim (λ lt. absurd (false≢true (sym less ∙ lt-ltb i n lt))) (λ le. omega (arith, le, e)) (cases_lt i n)

told_between : (all own : List Act) (first i : ℕ) (next : Option ℕ) → between (Some first) next ≡ length own → ((j : ℕ) → j < length own → slice_get all (first + j) ≡ slice_get own j) → act_between all (Some first) next i ≡ slice_get own i
told_between all own first i None e at = sym (slice_get_past own i (omega (arith, e)))
told_between all own first i (Some next) e at = by (nat_lt i (next - first)) refl
  where
    by : (b : Bool) → nat_lt i (next - first) ≡ b → (if b then slice_get all (first + i) else None) ≡ slice_get own i
    by true less = let lt = ltb-true i (next - first) less in at i (omega (arith, lt, e))
    by false less = sym (slice_get_past own i (not_less i (next - first) (length own) less e))

pub told_act : (p : Rows) (m : Meaning) (body count : ℕ) (all : List Act) (firsts : List ℕ) → AreTold p m body count all firsts → (k i : ℕ) → k < count → act_of all firsts body (body + k) i ≡ slice_get (acts p m (body + k)) i
told_act p m body count all firsts h k i lt = let one = h.first k lt in let next = item firsts body (body + k + 1) in
    ap (λ o. act_between all o next i) one.1 ∙ told_between all (acts p m (body + k)) one.0 i next (ap (λ o. between o next) (sym one.1) ∙ h.counts k lt) one.2

-- the acts of a row of the body
pub record IsToldAt (p : Rows) (m : Meaning) (body : ℕ) (all : List Act) (firsts : List ℕ) (n : ℕ) : Type 0 where
  pub count : count_of firsts body n ≡ length (acts p m n)
  pub own : (i : ℕ) → i < length (acts p m n) → slice_get all (unwrap_or (item firsts body n) 0 + i) ≡ slice_get (acts p m n) i

told_from : (p : Rows) (m : Meaning) (body count k : ℕ) (all : List Act) (firsts : List ℕ) → AreTold p m body count all firsts → k < count → IsToldAt p m body all firsts (body + k)
told_from p m body count k all firsts h less = record { count = h.counts k less; own = own }
  where
    own : (i : ℕ) → i < length (acts p m (body + k)) → slice_get all (unwrap_or (item firsts body (body + k)) 0 + i) ≡ slice_get (acts p m (body + k)) i
    own i in_row = let one = h.first k less in ap (λ o. slice_get all (unwrap_or o 0 + i)) one.1 ∙ one.2 i in_row

pub told_at : (p : Rows) (m : Meaning) (body count n : ℕ) (all : List Act) (firsts : List ℕ) → AreTold p m body count all firsts → body ≤ n → n < body + count → IsToldAt p m body all firsts n
told_at p m body count n all firsts h le lt = let at : body + (n - body) ≡ n = omega (arith, le) in subst (IsToldAt p m body all firsts) at (told_from p m body count (n - body) all firsts h (omega (arith, le, lt)))

pub row_written : {A E : Type 0} (r : Result A E) (p : Rows) (m : Meaning) (n : ℕ) (l : Label) (old new : List Act) → l ≡ label p n → OnOk r (new ≡ old ++ acts_by l p m n) → OnOk r (new ≡ old ++ acts p m n)
row_written r p m n l old new e h = on_ok_weaker {P = new ≡ old ++ acts_by l p m n} {Q = new ≡ old ++ acts p m n} r (λ w. w ∙ ap (λ k. old ++ acts_by k p m n) e) h

-- the label of the row that is read at a number
pub label_of : (p : Rows) (n : ℕ) (r : Row) → n < length p → r ≡ get_or p n r → r.label ≡ label p n
label_of p n r lt same = sym (ap (λ x. x.label) (read_row p n r (record { label = is.Skip; name = []; parent = n; end = n + 1; previous = n }) lt same))

-- ---- lists by row

pub lasts_next : (p : Rows) (n end : ℕ) → n < end → lasts_from p n (end - n) ≡ last p n ∷ lasts_from p (n + 1) (end - (n + 1))
lasts_next p n end lt = ap (lasts_from p n) (count_left end n lt)

pub last_of : (p : Rows) (n count k : ℕ) → k < count → slice_get (lasts_from p n count) k ≡ Some (last p (n + k))
last_of p n zero k lt = absurd (omega (arith, lt))
last_of p n (suc count) zero lt = let e : n ≡ n + 0 = omega arith in ap (λ j. Some (last p j)) e
last_of p n (suc count) (suc k) lt = let e : n + 1 + k ≡ n + suc k = omega arith in last_of p (n + 1) count k (omega (arith, lt)) ∙ ap (λ j. Some (last p j)) e

pub counts_next : (p : Rows) (firsts : List ℕ) (body n end : ℕ) → n < end → counts_from p firsts body n (end - n) ≡ count_of firsts body (parent p n) ∷ counts_from p firsts body (n + 1) (end - (n + 1))
counts_next p firsts body n end lt = ap (counts_from p firsts body n) (count_left end n lt)

pub count_at_row : (p : Rows) (firsts : List ℕ) (body n count k : ℕ) → k < count → slice_get (counts_from p firsts body n count) k ≡ Some (count_of firsts body (parent p (n + k)))
count_at_row p firsts body n zero k lt = absurd (omega (arith, lt))
count_at_row p firsts body n (suc count) zero lt = let e : n ≡ n + 0 = omega arith in ap (λ j. Some (count_of firsts body (parent p j))) e
count_at_row p firsts body n (suc count) (suc k) lt = let e : n + 1 + k ≡ n + suc k = omega arith in count_at_row p firsts body (n + 1) count k (omega (arith, lt)) ∙ ap (λ j. Some (count_of firsts body (parent p j))) e

-- what is pushed so far and what follows
pushed_more : (old new rest all : List ℕ) (x y : ℕ) → x ≡ y → new ≡ old ++ x ∷ [] → old ++ y ∷ rest ≡ all → new ++ rest ≡ all
pushed_more old new rest all x y same e h = ap (λ xs. xs ++ rest) e ∙ append_assoc old (x ∷ []) rest ∙ ap (λ z. old ++ z ∷ rest) same ∙ h

pub last_pushed : (p : Rows) (old new all : List ℕ) (n end x : ℕ) → n < end → x ≡ last p n → new ≡ old ++ x ∷ [] → old ++ lasts_from p n (end - n) ≡ all → new ++ lasts_from p (n + 1) (end - (n + 1)) ≡ all
last_pushed p old new all n end x lt sure e h = pushed_more old new (lasts_from p (n + 1) (end - (n + 1))) all x (last p n) sure e (ap (λ xs. old ++ xs) (sym (lasts_next p n end lt)) ∙ h)

pub lasts_end : (p : Rows) (old all : List ℕ) (n end : ℕ) → end ≤ n → old ++ lasts_from p n (end - n) ≡ all → old ≡ all
lasts_end p old all n end le h = let zero_left : end - n ≡ 0 = omega (arith, le) in sym (append-nil old) ∙ ap (λ k. old ++ lasts_from p n k) (sym zero_left) ∙ h

pub count_pushed : (p : Rows) (firsts old new all : List ℕ) (body n end x : ℕ) → n < end → x ≡ count_of firsts body (parent p n) → new ≡ old ++ x ∷ [] → old ++ counts_from p firsts body n (end - n) ≡ all
    → new ++ counts_from p firsts body (n + 1) (end - (n + 1)) ≡ all
count_pushed p firsts old new all body n end x lt sure e h = pushed_more old new (counts_from p firsts body (n + 1) (end - (n + 1))) all x (count_of firsts body (parent p n)) sure e (ap (λ xs. old ++ xs) (sym (counts_next p firsts body n end lt)) ∙ h)

pub counts_end : (p : Rows) (firsts old all : List ℕ) (body n end : ℕ) → end ≤ n → old ++ counts_from p firsts body n (end - n) ≡ all → old ≡ all
counts_end p firsts old all body n end le h = let zero_left : end - n ≡ 0 = omega (arith, le) in sym (append-nil old) ∙ ap (λ k. old ++ counts_from p firsts body n k) (sym zero_left) ∙ h

-- ---- what stands behind parts

module _ (p : Rows) (body at : ℕ) where
  -- an act of the row at changes the entry of one part alone, right below the row
  part_length : (k i : ℕ) (all : List ℕ) (b : Bool) → length (if b then slice_set all (k - body) (i + 1) else all) ≡ length all
  part_length k i all true = set_length all (k - body) (i + 1)
  part_length k i all false = refl

  act_length : (a : Act) (i : ℕ) (all : List ℕ) → length (placed p body at (Some a) i all) ≡ length all
  act_length (part k) i all = part_length k i all (not (nat_lt k body) && nat_eq (parent p k) at)
  act_length (event k) i all = refl
  act_length (node k) i all = refl
  act_length (define k d) i all = refl
  act_length (use_of k d) i all = refl
  act_length quit i all = refl
  act_length (fork j) i all = refl
  act_length (choose has_default) i all = refl
  act_length (go j) i all = refl
  act_length (jump c) i all = refl

  all_length : (own : List Act) (i : ℕ) (all : List ℕ) → length (placed_all p body at own i all) ≡ length all
  all_length [] i all = refl
  all_length (a ∷ own) i all = act_length a i (placed_all p body at own (i + 1) all) ∙ all_length own (i + 1) all

  part_other : (k i n : ℕ) (all : List ℕ) (b : Bool) → not (nat_lt k body) && nat_eq (parent p k) at ≡ b → body ≤ n → (k ≡ n → parent p k ≡ at → ⊥)
      → slice_get (if b then slice_set all (k - body) (i + 1) else all) (n - body) ≡ slice_get all (n - body)
  part_other k i n all false test le apart = refl
  part_other k i n all true test le apart = let both = and_parts (not (nat_lt k body)) (nat_eq (parent p k) at) test in
      get_set_other all (k - body) (n - body) (i + 1) (λ e. let from = not_below k both.0 in apart (omega (arith, e, from, le)) ((Decides-eqb (parent p k) at).0 both.1))
    where
      not_below : (k : ℕ) → not (nat_lt k body) ≡ true → body ≤ k
      not_below k test = ⊎_elim (λ lt. absurd (false≢true (ap not (sym (lt-ltb k body lt)) ∙ test))) (λ le. le) (cases_lt k body)

  act_other : (a : Act) (i n : ℕ) (all : List ℕ) → body ≤ n → ((k : ℕ) → a ≡ part k → k ≡ n → parent p k ≡ at → ⊥) → slice_get (placed p body at (Some a) i all) (n - body) ≡ slice_get all (n - body)
  act_other (part k) i n all le apart = part_other k i n all (not (nat_lt k body) && nat_eq (parent p k) at) refl le (apart k refl)
  act_other (event k) i n all le apart = refl
  act_other (node k) i n all le apart = refl
  act_other (define k d) i n all le apart = refl
  act_other (use_of k d) i n all le apart = refl
  act_other quit i n all le apart = refl
  act_other (fork j) i n all le apart = refl
  act_other (choose has_default) i n all le apart = refl
  act_other (go j) i n all le apart = refl
  act_other (jump c) i n all le apart = refl

  part_own : (i n : ℕ) (all : List ℕ) (b : Bool) → not (nat_lt n body) && nat_eq (parent p n) at ≡ b → body ≤ n → n - body < length all → parent p n ≡ at
      → slice_get (if b then slice_set all (n - body) (i + 1) else all) (n - body) ≡ Some (i + 1)
  part_own i n all true test le inside over = get_set_same all (n - body) (i + 1) inside
  part_own i n all false test le inside over = absurd (false≢true (sym test ∙ ap₂ (λ s t. s && t) (not_below n le) ((Decides-eqb (parent p n) at).1 over)))
    where
      not_below : (n : ℕ) → body ≤ n → not (nat_lt n body) ≡ true
      not_below n le = grind arith

  act_own : (a : Act) (i n : ℕ) (all : List ℕ) → is_part n a ≡ true → body ≤ n → n - body < length all → parent p n ≡ at → slice_get (placed p body at (Some a) i all) (n - body) ≡ Some (i + 1)
  act_own (part k) i n all sure le inside over = subst (λ j. slice_get (placed p body at (Some (part j)) i all) (n - body) ≡ Some (i + 1)) (sym ((Decides-eqb k n).0 sure))
      (part_own i n all (not (nat_lt n body) && nat_eq (parent p n) at) refl le inside over)
  act_own (event k) i n all sure le inside over = absurd (false≢true sure)
  act_own (node k) i n all sure le inside over = absurd (false≢true sure)
  act_own (define k d) i n all sure le inside over = absurd (false≢true sure)
  act_own (use_of k d) i n all sure le inside over = absurd (false≢true sure)
  act_own quit i n all sure le inside over = absurd (false≢true sure)
  act_own (fork j) i n all sure le inside over = absurd (false≢true sure)
  act_own (choose has_default) i n all sure le inside over = absurd (false≢true sure)
  act_own (go j) i n all sure le inside over = absurd (false≢true sure)
  act_own (jump c) i n all sure le inside over = absurd (false≢true sure)

  -- a row right below another is not one of its parts
  other_row : (own : List Act) (i n : ℕ) (all : List ℕ) → body ≤ n → (parent p n ≡ at → ⊥) → slice_get (placed_all p body at own i all) (n - body) ≡ slice_get all (n - body)
  other_row [] i n all le apart = refl
  other_row (a ∷ own) i n all le apart = act_other a i n (placed_all p body at own (i + 1) all) le (λ k e same over. apart (subst (λ j. parent p j ≡ at) same over)) ∙ other_row own (i + 1) n all le apart

  own_step : (a : Act) (own : List Act) (i n : ℕ) (rest : List ℕ) (b : Bool) → is_part n a ≡ b → body ≤ n → n - body < length rest → parent p n ≡ at → slice_get rest (n - body) ≡ Some (behind own n + (i + 1))
      → slice_get (placed p body at (Some a) i rest) (n - body) ≡ Some ((if b then 1 else behind own n + 1) + i)
  own_step a own i n rest true sure le inside over e = act_own a i n rest sure le inside over ∙ ap Some (add-comm i 1)
  own_step a own i n rest false sure le inside over e = act_other a i n rest le (λ k part_is same over. false≢true (sym sure ∙ ap (is_part n) part_is ∙ (Decides-eqb k n).1 same)) ∙ e ∙ ap Some (regroup (behind own n) i)
    where
      regroup : (b i : ℕ) → b + (i + 1) ≡ b + 1 + i
      regroup b i = omega arith

  own_row : (own : List Act) (i n : ℕ) (all : List ℕ) → body ≤ n → n - body < length all → parent p n ≡ at → slice_get all (n - body) ≡ Some (i + length own) → slice_get (placed_all p body at own i all) (n - body) ≡ Some (behind own n + i)
  own_row [] i n all le inside over e = e ∙ ap Some (add-comm i 0)
  own_row (a ∷ own) i n all le inside over e = let l = all_length own (i + 1) all in
      own_step a own i n (placed_all p body at own (i + 1) all) (is_part n a) refl le (omega (arith, inside, l)) over
      (own_row own (i + 1) n all le inside over (e ∙ ap Some (regroup i (length own))))
    where
      regroup : (i l : ℕ) → i + suc l ≡ i + 1 + l
      regroup i l = omega arith

-- ---- from the last act back

drop_get : {A : Type 0} (all : List A) (n : ℕ) (a : A) → slice_get all n ≡ Some a → drop n all ≡ a ∷ drop (n + 1) all
drop_get [] n a e = absurd (none-some a e)
drop_get (x ∷ all) zero a e = ap (λ y. y ∷ all) (same_Some x a e)
drop_get (x ∷ all) (suc n) a e = let next : suc n + 1 ≡ suc (n + 1) = omega arith in drop_get all n a e ∙ ap (λ k. a ∷ drop k (x ∷ all)) (sym next)

pub placed_next : (p : Rows) (body at : ℕ) (all : List Act) (count turn number : ℕ) (o : Option Act) (old new start : List ℕ) → turn < count → count ≡ length all → number ≡ count - turn - 1 → o ≡ slice_get all number
    → old ≡ placed_all p body at (drop (count - turn) all) (count - turn) start → new ≡ placed p body at o number old → new ≡ placed_all p body at (drop (count - (turn + 1)) all) (count - (turn + 1)) start
placed_next p body at all count turn number o old new start lt size sure found before e = let one = got all number (omega (arith, lt, size, sure)) in
    let next : count - turn ≡ number + 1 = omega (arith, lt, sure) in let here : number ≡ count - (turn + 1) = omega (arith, lt, sure) in
    e ∙ ap₂ (λ a xs. placed p body at a number xs) (found ∙ one.1) (before ∙ ap (λ k. placed_all p body at (drop k all) k start) next)
    ∙ ap (λ own. placed_all p body at own number start) (sym (drop_get all number one.0 one.1))
    ∙ ap (λ k. placed_all p body at (drop k all) k start) here

pub placed_starts : (p : Rows) (body at : ℕ) (all : List Act) (count : ℕ) (start : List ℕ) → count ≡ length all → start ≡ placed_all p body at (drop (count - 0) all) (count - 0) start
placed_starts p body at all count start size = let same : count - 0 ≡ count = omega arith in
    sym (ap (λ k. placed_all p body at (drop k all) k start) same ∙ ap (λ own. placed_all p body at own count start) (drop_all count all (omega (arith, size))))

pub placed_ends : (p : Rows) (body at : ℕ) (all : List Act) (count turn : ℕ) (old start : List ℕ) → count ≤ turn → old ≡ placed_all p body at (drop (count - turn) all) (count - turn) start → old ≡ placed_all p body at all 0 start
placed_ends p body at all count turn old start le h = let none : count - turn ≡ 0 = omega (arith, le) in h ∙ ap (λ k. placed_all p body at (drop k all) k start) none

pub rows_next : (p : Rows) (m : Meaning) (body at end : ℕ) (old new all : List ℕ) → at < end → new ≡ placed_all p body at (acts p m at) 0 old → placed_rows p m body at (end - at) old ≡ all → placed_rows p m body (at + 1) (end - (at + 1)) new ≡ all
rows_next p m body at end old new all lt e h = ap (placed_rows p m body (at + 1) (end - (at + 1))) e ∙ ap (λ k. placed_rows p m body at k old) (sym (count_left end at lt)) ∙ h

pub rows_end : (p : Rows) (m : Meaning) (body at end : ℕ) (old all : List ℕ) → end ≤ at → placed_rows p m body at (end - at) old ≡ all → old ≡ all
rows_end p m body at end old all le h = let none : end - at ≡ 0 = omega (arith, le) in ap (λ k. placed_rows p m body at k old) (sym none) ∙ h

-- ---- over all rows

rows_length : (p : Rows) (m : Meaning) (body count at : ℕ) (all : List ℕ) → length (placed_rows p m body at count all) ≡ length all
rows_length p m body zero at all = refl
rows_length p m body (suc count) at all = rows_length p m body count (at + 1) (placed_all p body at (acts p m at) 0 all) ∙ all_length p body at (acts p m at) 0 all

rows_other : (p : Rows) (m : Meaning) (body count at n : ℕ) (all : List ℕ) → body ≤ n → parent p n < at → slice_get (placed_rows p m body at count all) (n - body) ≡ slice_get all (n - body)
rows_other p m body zero at n all le below = refl
rows_other p m body (suc count) at n all le below = rows_other p m body count (at + 1) n (placed_all p body at (acts p m at) 0 all) le (omega (arith, below))
    ∙ other_row p body at (acts p m at) 0 n all le (λ e. absurd (omega (arith, e, below)))

rows_own : (p : Rows) (m : Meaning) (body count at n : ℕ) (all : List ℕ) → body ≤ n → n - body < length all → at ≤ parent p n → parent p n < at + count
    → slice_get all (n - body) ≡ Some (length (acts p m (parent p n))) → slice_get (placed_rows p m body at count all) (n - body) ≡ Some (behind (acts p m (parent p n)) n)
rows_own p m body zero at n all le inside from to e = absurd (omega (arith, from, to))
rows_own p m body (suc count) at n all le inside from to e = ⊎_elim
    (λ over. rows_other p m body count (at + 1) n (placed_all p body at (acts p m at) 0 all) le (omega (arith, over))
    ∙ own_row p body at (acts p m at) 0 n all le inside (sym over) (e ∙ ap (λ j. Some (length (acts p m j))) (sym over) ∙ ap Some (zero_before (length (acts p m at))))
    ∙ ap Some (add-zero (behind (acts p m at) n)) ∙ ap (λ j. Some (behind (acts p m j) n)) over)
    (λ apart. let l = all_length p body at (acts p m at) 0 all in
    rows_own p m body count (at + 1) n (placed_all p body at (acts p m at) 0 all) le (omega (arith, inside, l)) (less at (parent p n) from apart) (omega (arith, to))
    (other_row p body at (acts p m at) 0 n all le (λ over. apart (sym over)) ∙ e))
    (cases_eq at (parent p n))
  where
    less : (a b : ℕ) → a ≤ b → (a ≡ b → ⊥) → a + 1 ≤ b
    less a b le apart = ⊎_elim (λ lt. omega (arith, lt)) (λ ge. absurd (apart (omega (arith, le, ge)))) (cases_lt a b)

counts_length : (p : Rows) (firsts : List ℕ) (body n count : ℕ) → length (counts_from p firsts body n count) ≡ count
counts_length p firsts body n zero = refl
counts_length p firsts body n (suc count) = ap suc (counts_length p firsts body (n + 1) count)

-- each row of the body but the first
behind_of : (p : Rows) (m : Meaning) (body stop n : ℕ) (all : List Act) (firsts : List ℕ) → body < n → n < stop → body ≤ parent p n → parent p n < n → AreTold p m body (stop - body) all firsts
    → slice_get (placed_rows p m body body (stop - body) (counts_from p firsts body body (stop - body))) (n - body) ≡ Some (behind (acts p m (parent p n)) n)
behind_of p m body stop n all firsts lt inside over below told =
    let size = counts_length p firsts body body (stop - body) in
    let at_n : body + (n - body) ≡ n = omega (arith, lt) in
    let at_parent : body + (parent p n - body) ≡ parent p n = omega (arith, over) in
    rows_own p m body (stop - body) body n (counts_from p firsts body body (stop - body)) (omega (arith, lt)) (omega (arith, size, lt, inside)) over (omega (arith, below, lt, inside))
    (count_at_row p firsts body body (stop - body) (n - body) (omega (arith, lt, inside)) ∙ ap (λ j. Some (count_of firsts body (parent p j))) at_n
    ∙ ap (λ j. Some (count_of firsts body j)) (sym at_parent) ∙ ap Some (told.counts (parent p n - body) (omega (arith, over, below, lt, inside))) ∙ ap (λ j. Some (length (acts p m j))) at_parent)

pub behind_row : (p : Rows) (m : Meaning) (body n : ℕ) (all : List Act) (firsts : List ℕ) → IsTree p → end p body ≤ length p → body < n → n < end p body → AreTold p m body (end p body - body) all firsts
    → item (placed_rows p m body body (end p body - body) (counts_from p firsts body body (end p body - body))) body n ≡ Some (behind (acts p m (parent p n)) n)
behind_row p m body n all firsts tree few lt inside told =
    let at_n : body + (n - body) ≡ n = omega (arith, lt) in
    let entries = placed_rows p m body body (end p body - body) (counts_from p firsts body body (end p body - body)) in
    sym (ap (item entries body) at_n) ∙ item_at entries body (n - body)
    ∙ behind_of p m body (end p body) n all firsts lt inside (tree.inner body n lt inside) (tree.up n (omega (arith, inside, few)) (omega (arith, lt))) told

-- ---- all of the table

pub code_is : (p : Rows) (m : Meaning) (body : ℕ) (code : Code) → IsTree p → end p body ≤ length p → code.body ≡ body → AreWritten p m body (end p body - body) [] (seen code.acts) [] code.firsts.items
    → code.lasts.items ≡ lasts_from p body (end p body - body) → code.behinds.items ≡ placed_rows p m body body (end p body - body) (counts_from p code.firsts.items body body (end p body - body)) → IsCodeOf p m body code
code_is p m body code tree few is_of written lasts behinds = record {
  is_of = is_of;
  counts = λ n le lt. ap (λ b. count_of code.firsts.items b n) is_of ∙ (told_at p m body (end p body - body) n (seen code.acts) code.firsts.items told le (omega (arith, le, lt))).count;
  acts_are = λ n i le lt. let at : body + (n - body) ≡ n = omega (arith, le) in
      ap (λ b. act_of (seen code.acts) code.firsts.items b n i) is_of ∙ ap (λ k. act_of (seen code.acts) code.firsts.items body k i) (sym at)
      ∙ told_act p m body (end p body - body) (seen code.acts) code.firsts.items told (n - body) i (omega (arith, le, lt)) ∙ ap (λ k. slice_get (acts p m k) i) at;
  behinds = λ n lt inside. ap (λ xs. item xs body n) behinds ∙ behind_row p m body n (seen code.acts) code.firsts.items tree few lt inside told;
  lasts = λ n le lt. let at : body + (n - body) ≡ n = omega (arith, le) in
      ap (item code.lasts.items body) (sym at) ∙ item_at code.lasts.items body (n - body) ∙ ap (λ xs. slice_get xs (n - body)) lasts
      ∙ last_of p body (end p body - body) (n - body) (omega (arith, le, lt)) ∙ ap (λ k. Some (last p k)) at;
}
  where
    told : AreTold p m body (end p body - body) (seen code.acts) code.firsts.items
    told = all_told p m body (end p body - body) (seen code.acts) code.firsts.items written
