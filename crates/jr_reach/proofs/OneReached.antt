-- What is reached reads earlier rows alone, so there is one table of it.
use Rattle.std.proofs.Common.{◌≡◌, ◌⊎◌, refl, sym, ◌∙◌, ap, ⊎_elim, arith, ℕ, zero, suc, ◌+◌, ◌-◌, ◌<◌, ◌≤◌, Bool, true, false, not, ◌||◌, ◌&&◌, if◌then◌else◌, List, [], ◌∷◌, ◌++◌, length, nat_eq, get_or}
use Rattle.std.proofs.lemmas.Bool.{cases_lt}
use Rattle.std.proofs.lemmas.List.{length-append, get_or_past}
use Rattle.std.proofs.Math.ListN.{get_or-append}
use Rattle.std.proofs.Math.Seq.{get_or-append_seam}
use Rattle.jr_tree.specs.declared.label.Label.{Label}
use Rattle.jr_tree.specs.declared.label.Label.TheVariants as is
use Rattle.jr_tree.specs.Rows.{Rows, label, parent, previous}
use Rattle.jr_reach.specs.Statements.{Facts, Entries, fact, for_condition, courses}
use Rattle.jr_reach.specs.Reached.{Reached, is_switch_label, behind, is_no, reached_by, reached_at, AreReached, earlier, reaches, reached, ReadsEarlier, ReachedIsOne, EachIsReached}

-- what is reached at a row, by two tables that agree on its parent and on the row before it
module _ (p : Rows) (f : Facts) (e : Entries) (a b : Reached) (n : ℕ) (over : a (parent p n) ≡ b (parent p n)) (before : a (previous p n) ≡ b (previous p n)) where
  behind_same : behind p e a n ≡ behind p e b n
  behind_same = ap (λ x. if nat_eq (previous p n) (parent p n) || is_switch_label (label p (previous p n)) then x else a (previous p n) && (e (previous p n)).own.completes) over
      ∙ ap (λ x. if nat_eq (previous p n) (parent p n) || is_switch_label (label p (previous p n)) then b (parent p n) else x && (e (previous p n)).own.completes) before

  by_same : (l : Label) → reached_by l p f e a n ≡ reached_by l p f e b n
  by_same is.Block = behind_same
  by_same is.Group = behind_same
  by_same is.While = ap (λ x. x && not (is_no (fact f (parent p n + 1)).truth)) over
  by_same (is.For has_first true) = ap (λ x. x && not (is_no (fact f (for_condition p (parent p n) has_first)).truth)) over
  by_same (is.For has_first false) = over
  by_same _ = over

  at_same : reached_at p f e a n ≡ reached_at p f e b n
  at_same = by_same (label p (parent p n))

module _ (p : Rows) (f : Facts) (e : Entries) where
  reaches_length : (k : ℕ) → length (reaches p f e k) ≡ k
  reaches_length zero = refl
  reaches_length (suc k) = let h = reaches_length k in omega (arith, length-append (reaches p f e k) (reached_at p f e (earlier (reaches p f e k)) k ∷ []))

  -- a later table has the entries of an earlier one
  kept : (k more i : ℕ) → i < k → earlier (reaches p f e (k + more)) i ≡ earlier (reaches p f e k) i
  kept k zero i lt = let s : k + 0 ≡ k = omega arith in ap (λ j. get_or (reaches p f e j) i true) s
  kept k (suc more) i lt = let s : k + suc more ≡ suc (k + more) = omega arith in ap (λ j. get_or (reaches p f e j) i true) s
      ∙ get_or-append (reaches p f e (k + more)) (reached_at p f e (earlier (reaches p f e (k + more))) (k + more) ∷ []) true i (omega (arith, reaches_length (k + more)))
      ∙ kept k more i lt

  newest : (k : ℕ) → earlier (reaches p f e (suc k)) k ≡ reached_at p f e (earlier (reaches p f e k)) k
  newest k = ap (λ j. get_or (reaches p f e (suc k)) j true) (sym (reaches_length k))
      ∙ get_or-append_seam (reaches p f e k) (reached_at p f e (earlier (reaches p f e k)) k) [] true

  -- in the whole table a row is as it was when it was new
  whole : (n : ℕ) → n < length p → earlier (reaches p f e (length p)) n ≡ reached_at p f e (earlier (reaches p f e n)) n
  whole n lt = let more = length p - suc n in
      let all : suc n + more ≡ length p = omega arith in
      ap (λ j. earlier (reaches p f e j) n) (sym all) ∙ kept (suc n) more n (omega arith) ∙ newest n

  -- the table of the rows before n agrees with the whole one there
  agrees : (n m : ℕ) → n < length p → m < n → earlier (reaches p f e n) m ≡ earlier (reaches p f e (length p)) m
  agrees n m inside lt = let more = length p - n in
      let all : n + more ≡ length p = omega arith in
      sym (kept n more m lt) ∙ ap (λ j. earlier (reaches p f e j) m) all

module _ (p : Rows) (f : Facts) (r : ReadsEarlier p) where
  at_program : reached_at p f (courses p f) (earlier []) 0 ≡ true
  at_program = ap (λ l. reached_by l p f (courses p f) (earlier []) 0) (ap (λ n. label p n) r.root ∙ r.program)

  program_reached : reached p f 0 ≡ true
  program_reached = ⊎_elim
      (λ here. whole p f (courses p f) 0 here ∙ at_program)
      (λ out. get_or_past (reaches p f (courses p f) (length p)) 0 true (omega (arith, reaches_length p f (courses p f) (length p))))
      (cases_lt 0 (length p))

  computed : AreReached p f (courses p f) (reached p f)
  computed = record {
    program = program_reached;
    inside = λ n positive lt. whole p f (courses p f) n lt
        ∙ at_same p f (courses p f) (earlier (reaches p f (courses p f) n)) (reached p f) n (agrees p f (courses p f) n (parent p n) lt (r.below n positive lt)) (agrees p f (courses p f) n (previous p n) lt (r.beside n positive lt));
    outside = λ n le. get_or_past (reaches p f (courses p f) (length p)) n true (omega (arith, reaches_length p f (courses p f) (length p)));
  }

  only : (a b : Reached) → AreReached p f (courses p f) a → AreReached p f (courses p f) b → (k n : ℕ) → n < k → a n ≡ b n
  only a b x y zero n lt = absurd (omega arith)
  only a b x y (suc k) n lt = ⊎_elim
      (λ positive. ⊎_elim
      (λ here. x.inside n positive here
      ∙ at_same p f (courses p f) a b n (let up = r.below n positive here in only a b x y k (parent p n) (omega arith)) (let back = r.beside n positive here in only a b x y k (previous p n) (omega arith))
      ∙ sym (y.inside n positive here))
      (λ out. x.outside n out ∙ sym (y.outside n out))
      (cases_lt n (length p)))
      (λ none. let first : n ≡ 0 = omega arith in ap a first ∙ x.program ∙ sym y.program ∙ sym (ap b first))
      (cases_lt 0 n)

pub each_is_reached : EachIsReached
each_is_reached p f r = record {
  computed = computed p f r;
  only = λ a b x y n. only p f r a b x y (suc n) n (omega arith);
}
