-- Steps of loops over units and imports.
use Rattle.std.proofs.Common.{◌≡◌, refl, sym, ◌∙◌, ap, ap₂, subst, ⊎_elim, arith, ℕ, zero, suc, ◌+◌, ◌^◌, ◌<◌, ◌≤◌, All, Bool, true, false, cond, ◌&&◌, List, [], ◌∷◌, ◌++◌, length, drop, ◌==◌, None, nat_le, nat_lt, Decides, add-one, append-nil}
use Rattle.std.proofs.lemmas.Bool.{false≢true, cases_lt}
use Rattle.std.proofs.lemmas.List.Elements.{All-push}
use Rattle.std.proofs.lemmas.Bool.Decides.{Decides-ltb}
use Rattle.jr_plain.proofs.Enclosed.{most}
use Rattle.jr_defs.specs.declared.referent.Referent.{Referent}
use Rattle.jr_plain.specs.Search.{all_such, gathered}
use Rattle.jr_marks.specs.declared.marks.Marks.{Marks}
use Rattle.jr_change.specs.declared.change.Target.TheVariants as target
use Rattle.jr_tree.specs.Rows.{Rows, end}
use Rattle.jr_draft.specs.declared.packages.Head.{Head}
use Rattle.jr_draft.specs.Drafting.{Drafted, copied, referred}
use Rattle.jr_package.specs.Repackaging.{Merged, head_at, imports_in, is_of, joined, merged_below, merged_step, names_of, only_if, with_either, with_importing, with_imports, with_moved, with_one, with_qualifiers, with_stayed}

-- ---- numbers that pass, from one on

module _ (from : ℕ) (test : ℕ → Bool) where
  abbrev pub above : ℕ → Bool
  above k = nat_le from k && test k

  none_below : (n : ℕ) → n ≤ from → all_such n above ≡ []
  none_below zero le = refl
  none_below (suc n) le = ap₂ (λ xs b. xs ++ cond b (n ∷ []) []) (none_below n (omega arith)) (by (nat_le from n) (most from n))
    where
      by : (b : Bool) → Decides b (from ≤ n) → (b && test n) ≡ false
      by true d = let past = d.0 refl in absurd (omega arith)
      by false d = refl

  -- one number more, which passes or not
  such_more : (n : ℕ) (b : Bool) → from ≤ n → b ≡ test n → all_such n above ++ cond b (n ∷ []) [] ≡ all_such (n + 1) above
  such_more n b le is = rw add-one (ap (λ b. all_such n above ++ cond b (n ∷ []) []) (is ∙ sym (by (nat_le from n) (most from n))))
    where
      by : (b : Bool) → Decides b (from ≤ n) → (b && test n) ≡ test n
      by true d = refl
      by false d = absurd (false≢true (d.1 le))

  pub such_start : all_such from above ≡ []
  such_start = none_below from (omega arith)

  pub such_none : (n : ℕ) → n ≤ from → [] ≡ all_such n above
  such_none n le = sym (none_below n le)

  pub such_step : (n : ℕ) (b : Bool) (before more : List ℕ) → from ≤ n → before ≡ all_such n above → b ≡ test n → more ≡ before ++ only_if b n → more ≡ all_such (n + 1) above
  such_step n b before more le h is made = made ∙ ap (λ xs. xs ++ only_if b n) h ∙ by b is
    where
      by : (b : Bool) → b ≡ test n → all_such n above ++ only_if b n ≡ all_such (n + 1) above
      by true is = such_more n true le is
      by false is = such_more n false le is

  -- numbers up to an end, also where that stands before the first
  pub such_end : (n at : ℕ) (all : List ℕ) → (n < from → all ≡ []) → all ≡ all_such at above → n ≤ at → (from ≤ n → at ≤ n) → all ≡ all_such n above
  such_end n at all none such past reached = ⊎_elim (λ lt. none lt ∙ such_none n (omega arith)) (λ le. let within = reached le in let same : at ≡ n = omega arith in such ∙ ap (λ n. all_such n above) same) (cases_lt n from)

pub such_all : (test : ℕ → Bool) (at n : ℕ) (all : List ℕ) → at ≡ n → all ≡ all_such at test → all ≡ all_such n test
such_all test at n all same h = h ∙ ap (λ n. all_such n test) same

pub gathered_all : (of : ℕ → List ℕ) (at n : ℕ) (all : List ℕ) → at ≡ n → all ≡ gathered at of → all ≡ gathered n of
gathered_all of at n all same h = h ∙ ap (λ n. gathered n of) same

-- what is added is within the bounds
pub within_more : (b : Bool) (n : ℕ) (before more : List ℕ) → All (λ k. k + 1 < 2 ^ 32) before → n + 1 < 2 ^ 32 → more ≡ before ++ only_if b n → All (λ k. k + 1 < 2 ^ 32) more
within_more b n before more all fits made = subst (All (λ k. k + 1 < 2 ^ 32)) (sym made) (added before b all)
  where
    added : (xs : List ℕ) (b : Bool) → All (λ k. k + 1 < 2 ^ 32) xs → All (λ k. k + 1 < 2 ^ 32) (xs ++ only_if b n)
    added xs true all = All-push (λ k. k + 1 < 2 ^ 32) xs n all fits
    added xs false all = subst (All (λ k. k + 1 < 2 ^ 32)) (sym (append-nil xs)) all

-- ---- names

pub names_before : (m : Marks) (t : List Referent) (from : List ℕ) → [] ≡ gathered 2 (names_of m t from)
names_before m t from = refl

-- ---- qualifiers

pub qualifiers_more : (count : ℕ) (start before more : Drafted) → before ≡ with_qualifiers count start → more ≡ referred before target.Package None → more ≡ with_qualifiers (count + 1) start
qualifiers_more count start before more h made = rw add-one (made ∙ ap (λ d. referred d target.Package None) h)

-- ---- orders

pub merged_more : (m : Marks) (folder from moved : List ℕ) (unit : ℕ) (before more : Merged) → 2 ≤ unit → before ≡ merged_below m folder from moved unit → more ≡ merged_step m folder from unit before
    → more ≡ merged_below m folder from moved (unit + 1)
merged_more m folder from moved unit before more behind h made = rw add-one (made ∙ ap (merged_step m folder from unit) h ∙ by (nat_lt unit 2) (Decides-ltb unit 2))
  where
    by : (b : Bool) → Decides b (unit < 2) → merged_step m folder from unit (merged_below m folder from moved unit)
        ≡ cond b (merged_below m folder from moved unit) (merged_step m folder from unit (merged_below m folder from moved unit))
    by true d = let lt = d.0 refl in absurd (omega arith)
    by false d = refl

pub merged_all : (m : Marks) (folder from moved : List ℕ) (unit count : ℕ) (before : Merged) (order : List ℕ) → unit ≡ count → before ≡ merged_below m folder from moved unit → order ≡ joined before
    → order ≡ joined (merged_below m folder from moved count)
merged_all m folder from moved unit count before order same h made = made ∙ ap joined (h ∙ ap (merged_below m folder from moved) same)

-- ---- rows and units

dropped : (xs : List ℕ) (i : ℕ) → length xs ≤ i → drop i xs ≡ []
dropped [] zero le = refl
dropped [] (suc i) le = refl
dropped (x ∷ xs) zero le = absurd (omega arith)
dropped (x ∷ xs) (suc i) le = dropped xs i (omega arith)

pub rows_all : (p : Rows) (to : List ℕ) (unit from first : ℕ) (ats : List ℕ) (index : ℕ) (draft start new : Drafted) → length ats ≤ index
    → with_imports p to unit from (drop index ats) draft ≡ with_imports p to unit first ats start → new ≡ copied draft from (end p unit) → new ≡ with_imports p to unit first ats start
rows_all p to unit from first ats index draft start new le h made = made ∙ ap (λ xs. with_imports p to unit from xs draft) (sym (dropped ats index le)) ∙ h

pub stayed_some : (m : Marks) (to : List ℕ) (unit : ℕ) (head : Head) (ats : List ℕ) (old new : Drafted) (b : Bool) → b ≡ (length ats == 0) → b ≡ false → new ≡ with_importing m to unit head ats old → new ≡ with_stayed m to unit head ats old
stayed_some m to unit head [] old new b is fails made = absurd (false≢true (sym fails ∙ is))
stayed_some m to unit head (at ∷ ats) old new b is fails made = made

module _ (m : Marks) (folder from to : List ℕ) (unit : ℕ) (head : Head) (ats : List ℕ) (old new : Drafted) where
  pub either_moved : is_of m from unit ≡ true → new ≡ with_moved m folder to unit head ats old → new ≡ with_either m folder from to unit head ats old
  either_moved is made = made ∙ ap (λ b. cond b (with_moved m folder to unit head ats old) (with_stayed m to unit head ats old)) (sym is)

  pub either_stayed : is_of m from unit ≡ false → new ≡ with_stayed m to unit head ats old → new ≡ with_either m folder from to unit head ats old
  either_stayed is made = made ∙ ap (λ b. cond b (with_moved m folder to unit head ats old) (with_stayed m to unit head ats old)) (sym is)

  pub one_so : (t : List Referent) → head ≡ head_at m unit → ats ≡ imports_in m.rows.now t from head → new ≡ with_either m folder from to unit head ats old → new ≡ with_one m t folder from to old unit
  one_so t h a made = made ∙ (λ i. with_either m folder from to unit (h i) ((a ∙ ap (λ head. imports_in m.rows.now t from head) h) i) old)
