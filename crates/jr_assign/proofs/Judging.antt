-- What the table of a member says of its rows.
use Rattle.std.proofs.Common.{◌≡◌, ◌≢◌, refl, sym, ◌∙◌, ap, subst, ⊎_elim, arith, ℕ, zero, suc, ◌+◌, ◌-◌, ◌*◌, ◌%◌, ◌^◌, ◌<◌, ◌≤◌, Bool, true, false, not, ◌&&◌, if◌then◌else◌, List, [], ◌∷◌, length, Option, Some, None, nat_eq, nat_lt, bit_and, slice_index_or, slice_set}
use Rattle.std.specs.Int.{bit_at}
use Rattle.std.proofs.lemmas.Bool.{false≢true, cases_eq, cases_lt, ltb-true, ltb-false, le-ltb}
use Rattle.std.proofs.lemmas.Bool.Decides.{Decides-eqb}
use Rattle.std.proofs.lemmas.List.{get_or_past, get_or-set_same, get_or-set_other}
use Rattle.std.proofs.lemmas.Nat.{one_shl, pow_pos}
use Rattle.std.proofs.lemmas.Nat.Bits.{and_pow, bit_at-zero, bit_at-lt, bit_at-pow_same, bit_at-pow_other}
use Rattle.jr_tree.specs.declared.label.Label.{Label}
use Rattle.jr_tree.specs.declared.label.Label.TheVariants as is
use Rattle.jr_tree.specs.declared.row.Row.{Row}
use Rattle.jr_tree.specs.Rows.{Rows, label, end}
use Rattle.jr_assign.specs.declared.fact.Fact.{Fact}
use Rattle.jr_plain.specs.Search.{all_below}
use Rattle.jr_assign.specs.declared.course.Course.{Course}
use Rattle.jr_assign.specs.Changes.{Facts, fact, member_in}
use Rattle.jr_assign.specs.Sets.{only}
use Rattle.jr_assign.specs.Assigned.{Seen, AreAssigned, has_last, has_parts, is_last, is_row, solved}
use Rattle.jr_assign.specs.Words.{mask_of, mask, has_bit, bits_of, IsTold, HasBit, seen_by, sets_by}
use Rattle.jr_assign.specs.Confirmed.{are_last, IsWhole}
use Rattle.jr_assign.specs.Judged.{IsJudged, AreJudged, Verdicts, verdict, number, is_owner, is_owned, is_owned_if, is_declared_owned, is_owned_at, are_owned, is_asked, judged_by, judged_at, IsConfirmed}
use Rattle.jr_assign.proofs.Inside.{both_true, not_true, eq_true, eq_false}
use Rattle.jr_assign.proofs.Following.{solves}
use Rattle.jr_assign.proofs.Bits.{each_word}

pub each_below : (n : ℕ) (test : ℕ → Bool) → all_below n test ≡ true → (i : ℕ) → i < n → test i ≡ true
each_below zero test e i lt = absurd (omega arith)
each_below (suc n) test e i lt = let parts = both_true _ _ e in ⊎_elim (λ same. subst (λ j. test j ≡ true) (sym same) parts.1) (λ apart. each_below n test parts.0 i (omega arith)) (cases_eq i n)

same : (x y : ℕ) → nat_eq x y ≡ true → x ≡ y
same x y e = (Decides-eqb x y).0 e

-- ---- a variable with a bit

pub record BitOf (from : ℕ) (o : Option ℕ) : Type 0 where
  pub number : ℕ
  pub is : o ≡ Some number
  pub low : from ≤ number
  pub small : number - from < 64
  pub mask : mask_of from o ≡ 2 ^ (number - from)

pub bit_told : (from : ℕ) (o : Option ℕ) → nat_eq (mask_of from o) 0 ≡ false → BitOf from o
bit_told from None e = absurd (false≢true (sym e))
bit_told from (Some k) e = by (nat_lt k from) (nat_lt (k - from) 64) refl refl e
  where
    by : (b d : Bool) → nat_lt k from ≡ b → nat_lt (k - from) 64 ≡ d → nat_eq (if b then 0 else (if d then 1 * 2 ^ (k - from) % 2 ^ 64 else 0)) 0 ≡ false → BitOf from (Some k)
    by true d eb ed e = absurd (false≢true (sym e))
    by false false eb ed e = absurd (false≢true (sym e))
    by false true eb ed e = let small = ltb-true (k - from) 64 ed in record {
      number = k;
      is = refl;
      low = ltb-false k from eb;
      small = small;
      mask = ap (λ b. if b then 0 else (if nat_lt (k - from) 64 then 1 * 2 ^ (k - from) % 2 ^ 64 else 0)) eb ∙ ap (λ d. if d then 1 * 2 ^ (k - from) % 2 ^ 64 else 0) ed ∙ one_shl (k - from) 64 small;
    }

-- the bit of another number is none of this one
mask_bit : (from k j : ℕ) → j < 64 → from + j ≢ k → has_bit j (mask_of from (Some k)) ≡ false
mask_bit from k j small apart = by (nat_lt k from) (nat_lt (k - from) 64) refl refl
  where
    none : nat_eq (bit_at 0 j) 1 ≡ false
    none = ap (λ b. nat_eq b 1) (bit_at-zero j)

    by : (b d : Bool) → nat_lt k from ≡ b → nat_lt (k - from) 64 ≡ d → nat_eq (bit_at (if b then 0 else (if d then 1 * 2 ^ (k - from) % 2 ^ 64 else 0)) j) 1 ≡ false
    by true d eb ed = none
    by false false eb ed = none
    by false true eb ed = let low = ltb-false k from eb in ap (λ m. nat_eq (bit_at m j) 1) (one_shl (k - from) 64 (ltb-true _ _ ed)) ∙ ap (λ b. nat_eq b 1) (bit_at-pow_other (k - from) j (λ e. apart (omega arith)))

module _ (c : Course) (owners : List (Option ℕ)) (v : ℕ) (bit : BitOf c.from (number c v)) (owned : is_owned c owners v ≡ true) where
  abbrev j : ℕ
  j = bit.number - c.from

  back : c.from + j ≡ bit.number
  back = let low = bit.low in omega arith

  own : is_row (slice_index_or owners bit.number None) v ≡ true
  own = sym (ap (λ o. is_owner owners o v) bit.is) ∙ owned

  mask_is : mask c.numbers.now c.from v ≡ 2 ^ j
  mask_is = bit.mask

  told_by : (o : Option ℕ) (d : ℕ) → number c d ≡ o → is_owner owners o d ≡ true → has_bit j (mask_of c.from o) ≡ nat_eq d v
  told_by None d e h = ap (λ b. nat_eq b 1) (bit_at-zero j) ∙ sym (eq_false d v (λ at. absurd (none_some (sym e ∙ ap (number c) at ∙ bit.is))))
    where
      none_some : {k : ℕ} → None ≡ Some k → ⊥
      none_some e = cc
  told_by (Some k) d e h = ⊎_elim
      (λ at. let one = one_row (slice_index_or owners k None) d v h (ap (λ k. is_row (slice_index_or owners k None) v) at ∙ own) in
      ap (λ o. has_bit j (mask_of c.from o)) (sym e ∙ ap (number c) one) ∙ ap (has_bit j) bit.mask ∙ ap (λ b. nat_eq b 1) (bit_at-pow_same j) ∙ sym (eq_true d v one))
      (λ apart. mask_bit c.from k j bit.small (λ at. let over = back in apart (omega arith)) ∙ sym (eq_false d v (λ at. apart (some_same (sym e ∙ ap (number c) at ∙ bit.is)))))
      (cases_eq k bit.number)
    where
      some_same : {k l : ℕ} → Some k ≡ Some l → k ≡ l
      some_same e = cc

      one_row : (o : Option ℕ) (d v : ℕ) → is_row o d ≡ true → is_row o v ≡ true → d ≡ v
      one_row None d v a b = absurd (false≢true a)
      one_row (Some m) d v a b = sym (same m d a) ∙ same m v b

  told : (d : ℕ) → is_owned c owners d ≡ true → IsTold c.numbers.now c.from v j d
  told d h = told_by (number c d) d refl h

  declared_told : (l : Label) (n : ℕ) (is_final : Bool) (dims : ℕ) → l ≡ is.Local is_final dims → is_declared_owned l c owners n ≡ true → is_owned c owners n ≡ true
  declared_told l n is_final dims e h = sym (ap (λ l. is_declared_owned l c owners n) e) ∙ h

  assigned_told : (o : Option ℕ) (d : ℕ) → o ≡ Some d → is_owned_if c owners o ≡ true → is_owned c owners d ≡ true
  assigned_told o d e h = sym (ap (is_owned_if c owners) e) ∙ h

  pub has_bit_of : are_owned c owners ≡ true → HasBit c.numbers.now c.from v j c.rows.now c.facts.now c.root
  has_bit_of all = record {
    small = bit.small;
    declared = λ n low high is_final dims e. told n (declared_told (label c.rows.now n) n is_final dims e (both_true _ _ (at_row n (omega arith) high)).0);
    assigned = λ n low high d e. told d (assigned_told (fact c.facts.now n).assigned d e (both_true _ _ (at_row n low high)).1);
  }
    where
      at_row : (n : ℕ) → c.root ≤ n → n < end c.rows.now c.root → is_owned_at c owners n ≡ true
      at_row n low high = let back : c.root + (n - c.root) ≡ n = omega arith in subst (λ n. is_owned_at c owners n ≡ true) back
          (each_below (end c.rows.now c.root - c.root) (λ i. is_owned_at c owners (c.root + i)) all (n - c.root) (omega arith))

-- the bit of a word, as it is tested
pub bit_tested : (x m k : ℕ) → m ≡ 2 ^ k → not (nat_eq (bit_and x m) 0) ≡ has_bit k x
bit_tested x m k e = ap (λ m. not (nat_eq (bit_and x m) 0)) e ∙ ap (λ b. not (nat_eq b 0)) (and_pow x k) ∙ by (bit_at x k) (bit_at-lt x k)
  where
    by : (b : ℕ) → b < 2 → not (nat_eq (b * 2 ^ k) 0) ≡ nat_eq b 1
    by zero lt = ap not (eq_true (0 * 2 ^ k) 0 (omega arith))
    by (suc zero) lt = ap not (eq_false (1 * 2 ^ k) 0 (λ e. let some = pow_pos k in absurd (omega arith)))
    by (suc (suc b)) lt = absurd (omega arith)

-- ---- rows that are a tree, with parts that are known

abbrev no_fact : Fact
no_fact = record { truth = None; way = None; last = None; has_default = false; read = None; assigned = None }

pub none_some : {A : Type 0} {x : A} → None ≡ Some x → ⊥
none_some e = cc

module _ (p : Rows) (f : Facts) (lasts : are_last p f ≡ true) where
  as_long : length f ≡ length p
  as_long = (Decides-eqb (length f) (length p)).0 (both_true _ _ lasts).0

  pub has_each_last : (n : ℕ) → has_last p f n ≡ true
  has_each_last n = ⊎_elim (λ lt. each_below (length p) (has_last p f) (both_true _ _ lasts).1 n lt) (λ past. by past) (cases_lt n (length p))
    where
      past_end : (e : ℕ) → e ≡ n + 1 → not (nat_lt (n + 1) e) ≡ true
      past_end e is = ap not (le-ltb (n + 1) e (omega arith))

      by : length p ≤ n → has_last p f n ≡ true
      by past = let long = as_long in ap (λ o. is_last o p n) (ap (λ (x : Fact). x.last) (get_or_past f n no_fact (omega arith))) ∙ past_end (end p n) (ap (λ (x : Row). x.end) (get_or_past p n _ past))

  pub read_within : (n : ℕ) {v : ℕ} → (fact f n).read ≡ Some v → n < length p
  read_within n e = ⊎_elim (λ lt. lt) (λ past. let long = as_long in absurd (none_some (sym (ap (λ (x : Fact). x.read) (get_or_past f n no_fact (omega arith))) ∙ e))) (cases_lt n (length p))

-- ---- the table of a member

module _ (c : Course) (start : ℕ) (owners : List (Option ℕ)) (sure : IsConfirmed c start owners) (whole : IsWhole c.rows.now c.facts.now) (there : c.root < length c.rows.now) where
  pub parts_in : (n : ℕ) → c.root ≤ n → n < end c.rows.now c.root → has_parts c.rows.now c.facts.now n ≡ true
  parts_in n low high = let most = whole.tree.last c.root there in each_below (length c.rows.now) (has_parts c.rows.now c.facts.now) whole.parts n (omega arith)

  abbrev pub solution : ℕ → Seen ℕ
  solution = solved (sets_by c) c.rows.now c.facts.now c.root start

  pub is_solution : AreAssigned (sets_by c) c.rows.now c.facts.now c.root start solution
  is_solution = solves (sets_by c) c.rows.now whole.tree c.facts.now (has_each_last c.rows.now c.facts.now whole.lasts) c.root there parts_in start

  -- it is what the code has found
  pub found : (n : ℕ) → c.root ≤ n → n < end c.rows.now c.root → seen_by c n ≡ solution n
  found = sure.table.each solution (record {
    tree = whole.tree;
    there = there;
    lasts = has_each_last c.rows.now c.facts.now whole.lasts;
    parts = parts_in;
    guarded = sure.guarded;
    assigned = is_solution;
  })

module _ (c : Course) (start : ℕ) (owners : List (Option ℕ)) (sure : IsConfirmed c start owners) where
  module _ (held : List ℕ) (v n : ℕ) (read : (fact c.facts.now n).read ≡ Some v) (asked : is_asked c start owners held v n ≡ true) (low : c.root ≤ n) (high : n < end c.rows.now c.root) where
    asks : (not (nat_eq (mask c.numbers.now c.from v) 0) ≡ true) × ((nat_eq (bit_and start (mask c.numbers.now c.from v)) 0 && (is_owned c owners v && nat_eq (member_in held n) c.root)) ≡ true)
    asks = both_true _ _ asked

    bit : BitOf c.from (number c v)
    bit = bit_told c.from (number c v) (not_true _ asks.0)

    owned : is_owned c owners v ≡ true
    owned = (both_true _ _ (both_true _ _ asks.1).1).0

    holder : member_in held n ≡ c.root
    holder = same _ _ (both_true _ _ (both_true _ _ asks.1).1).1

    unset : has_bit (bit.number - c.from) start ≡ false
    unset = sym (bit_tested start (mask c.numbers.now c.from v) (bit.number - c.from) bit.mask) ∙ ap not (both_true _ _ asks.1).0

    module _ (whole : IsWhole c.rows.now c.facts.now) where
      there : c.root < length c.rows.now
      there = let lt = read_within c.rows.now c.facts.now whole.lasts n read in omega arith

      judged : IsJudged c.rows.now c.facts.now (member_in held n) n (not (nat_eq (bit_and (seen_by c n).before (mask c.numbers.now c.from v)) 0))
      judged = subst (λ root. IsJudged c.rows.now c.facts.now root n (not (nat_eq (bit_and (seen_by c n).before (mask c.numbers.now c.from v)) 0))) (sym holder) (record {
        variable = v;
        read = read;
        table = bits_of (bit.number - c.from) (solution c start owners sure whole there);
        assigned = subst (λ b. AreAssigned (only v) c.rows.now c.facts.now c.root b (bits_of (bit.number - c.from) (solution c start owners sure whole there))) unset
            (each_word c.numbers.now c.from v (bit.number - c.from) c.rows.now c.facts.now c.root start (solution c start owners sure whole there) (has_bit_of c owners v bit owned sure.owned)
            (is_solution c start owners sure whole there));
        parts = parts_in c start owners sure whole there;
        low = low;
        high = high;
        is = ap (λ (x : Seen ℕ). has_bit (bit.number - c.from) x.before) (sym (found c start owners sure whole there n low high))
            ∙ sym (bit_tested (seen_by c n).before (mask c.numbers.now c.from v) (bit.number - c.from) bit.mask);
      })

-- a verdict more
pub verdict_more : (P : ℕ → Bool → Type 0) (old : Verdicts) (n : ℕ) (x : Bool) → ((m : ℕ) (b : Bool) → verdict old m ≡ Some b → P m b) → P n x → (m : ℕ) (b : Bool) → verdict (slice_set old n (Some x)) m ≡ Some b → P m b
verdict_more P old n x each here m b e = ⊎_elim
    (λ at. ⊎_elim
    (λ lt. subst (λ m. P m b) (sym at) (subst (P n) (some_same (sym (get_or-set_same old n (Some x) None lt) ∙ sym (ap (λ m. verdict (slice_set old n (Some x)) m) at) ∙ e)) here))
    (λ past. each m b (sym (ap (λ all. verdict all m) (set_past old n (Some x) past)) ∙ e))
    (cases_lt n (length old)))
    (λ apart. each m b (sym (get_or-set_other old n m (Some x) None apart) ∙ e))
    (cases_eq m n)
  where
    some_same : {a b : Bool} → Some a ≡ Some b → a ≡ b
    some_same e = cc

    set_past : (xs : Verdicts) (i : ℕ) (x : Option Bool) → length xs ≤ i → slice_set xs i x ≡ xs
    set_past [] i x le = refl
    set_past (y ∷ ys) zero x le = absurd (omega arith)
    set_past (y ∷ ys) (suc i) x le = ap (λ l. y ∷ l) (set_past ys i x (omega arith))

-- one row more
pub judged_more : (c : Course) (start : ℕ) (owners : List (Option ℕ)) (held : List ℕ) → IsConfirmed c start owners → (n : ℕ) → c.root ≤ n → n < end c.rows.now c.root → (old new : Verdicts)
    → AreJudged c.rows.now c.facts.now held old → new ≡ judged_at c start owners held n old → AreJudged c.rows.now c.facts.now held new
judged_more c start owners held sure n low high old new are is = subst (AreJudged c.rows.now c.facts.now held) (sym is) (by (fact c.facts.now n).read refl)
  where
    put : (x : Bool) → (IsWhole c.rows.now c.facts.now → IsJudged c.rows.now c.facts.now (member_in held n) n x) → AreJudged c.rows.now c.facts.now held (slice_set old n (Some x))
    put x judged = record { each = λ whole. verdict_more (λ m b. IsJudged c.rows.now c.facts.now (member_in held m) m b) old n x (are.each whole) (judged whole) }

    choose : (v : ℕ) → (fact c.facts.now n).read ≡ Some v → (b : Bool) → is_asked c start owners held v n ≡ b
        → AreJudged c.rows.now c.facts.now held (if b then slice_set old n (Some (not (nat_eq (bit_and (seen_by c n).before (mask c.numbers.now c.from v)) 0))) else old)
    choose v read true asked = put _ (judged c start owners sure held v n read asked low high)
    choose v read false asked = are

    by : (o : Option ℕ) → (fact c.facts.now n).read ≡ o → AreJudged c.rows.now c.facts.now held (judged_by c start owners held o n old)
    by None read = are
    by (Some v) read = choose v read (is_asked c start owners held v n) refl
