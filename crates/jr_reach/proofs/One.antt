-- Courses read later rows alone, so there is one table of them.
use Rattle.std.proofs.Common.{◌≡◌, ◌⊎◌, refl, sym, ◌∙◌, ap, subst, inl, inr, ⊎_elim, arith, ℕ, zero, suc, ◌+◌, ◌-◌, ◌<◌, ◌≤◌, Bool, true, false, ◌||◌, ◌&&◌, if◌then◌else◌, List, [], ◌∷◌, ◌++◌, length, Option, Some, None, nat_lt, get_or}
use Rattle.std.proofs.lemmas.Bool.{false≢true, cases_Bool, cases_lt}
use Rattle.std.proofs.lemmas.Bool.Decides.{Decides-ltb}
use Rattle.std.proofs.lemmas.List.{length-append}
use Rattle.std.proofs.Math.ListN.{get_or-append}
use Rattle.std.proofs.Math.Seq.{get_or-append_seam}
use Rattle.jr_tree.specs.declared.label.Label.{Label}
use Rattle.jr_tree.specs.declared.label.Label.TheVariants as is
use Rattle.jr_tree.specs.Rows.{Rows, label, parent, end}
use Rattle.jr_reach.specs.declared.fact.Fact.{Fact}
use Rattle.jr_reach.specs.declared.course.Course.{Course}
use Rattle.jr_reach.specs.declared.course.Entry.{Entry}
use Rattle.jr_reach.specs.Courses.{begun, in_turn, either_of, groups, through, looped, looped_once, switched, labeled}
use Rattle.jr_reach.specs.Statements.{Facts, Entries, fact, is_catch, has_next, kids, for_condition, if_course, tried, try_course, course_by, course_at, rest_by, entry_at, later, entries, nothing, AreCourses, ReadsLater, CoursesAreOne, EachHasCourses}

-- the value of a test
lt_true : (m n : ℕ) → m < n → nat_lt m n ≡ true
lt_true m n h = (Decides-ltb m n).1 h

lt_false : (m n : ℕ) → n ≤ m → nat_lt m n ≡ false
lt_false m n h = ⊎_elim (λ t. let lt = (Decides-ltb m n).0 t in absurd (omega arith)) (λ f. f) (cases_Bool (nat_lt m n))

module _ (p : Rows) (f : Facts) (r : ReadsLater p f) (e g : Entries) (n : ℕ) (same : (m : ℕ) → n < m → e m ≡ g m) where
  at_first : e (n + 1) ≡ g (n + 1)
  at_first = same (n + 1) (omega arith)

  at_second : e (end p (n + 1)) ≡ g (end p (n + 1))
  at_second = let up = r.nested (n + 1) in same (end p (n + 1)) (omega arith)

  at_third : e (end p (end p (n + 1))) ≡ g (end p (end p (n + 1)))
  at_third = let up = r.nested (n + 1) in let further = r.nested (end p (n + 1)) in same (end p (end p (n + 1))) (omega arith)

  at_next : e (end p n) ≡ g (end p n)
  at_next = same (end p n) (r.nested n)

  kids_same : kids p e n ≡ kids p g n
  kids_same = ap (λ (x : Entry). if nat_lt (n + 1) (end p n) then x.rest else begun) at_first

  if_same : if_course p e n ≡ if_course p g n
  if_same = ap (λ (x : Entry). if nat_lt (end p (end p (n + 1))) (end p n) then either_of x.own (e (end p (end p (n + 1)))).own else record { completes = true; exits = x.own.exits }) at_second
      ∙ ap (λ (x : Entry). if nat_lt (end p (end p (n + 1))) (end p n) then either_of (g (end p (n + 1))).own x.own else record { completes = true; exits = (g (end p (n + 1))).own.exits }) at_third

  tried_same : tried p e n ≡ tried p g n
  tried_same = ap (λ (x : Entry). if is_catch (label p (end p (n + 1))) && nat_lt (end p (n + 1)) (end p n) then either_of x.own (e (end p (n + 1))).rest else x.own) at_first
      ∙ ap (λ (x : Entry). if is_catch (label p (end p (n + 1))) && nat_lt (end p (n + 1)) (end p n) then either_of (g (n + 1)).own x.rest else (g (n + 1)).own) at_second

  try_same : (last : Option ℕ) → (fact f n).last ≡ last → try_course p e n last ≡ try_course p g n last
  try_same None h = tried_same
  try_same (Some last) h = ap (λ c. through c (e last).own) tried_same ∙ ap (λ (x : Entry). through (tried p g n) x.own) (same last (r.behind n last h))

  course_same : (l : Label) → course_by l p f e n ≡ course_by l p f g n
  course_same is.Block = kids_same
  course_same is.Nest = kids_same
  course_same is.Group = kids_same
  course_same is.Catch = kids_same
  course_same (is.Method modifiers is_void has_body) = kids_same
  course_same (is.Initializer is_static) = kids_same
  course_same is.Labeled = ap (λ c. labeled n c) kids_same
  course_same is.If = if_same
  course_same is.While = ap (λ c. looped (fact f (n + 1)).truth n c) kids_same
  course_same (is.For has_first true) = ap (λ c. looped (fact f (for_condition p n has_first)).truth n c) kids_same
  course_same (is.For has_first false) = ap (λ c. looped (Some true) n c) kids_same
  course_same is.Do = ap (λ c. looped_once (fact f (end p (n + 1))).truth n c) kids_same
  course_same is.Switch = ap (λ c. switched (fact f n).has_default n c) kids_same
  course_same (is.Try has_finally) = try_same (fact f n).last refl
  course_same _ = refl

  rest_same : (l : Label) (own : Course) → rest_by l p e n own ≡ rest_by l p g n own
  rest_same is.Catch own = ap (λ (x : Entry). if has_next p n && is_catch (label p (end p n)) then either_of own x.rest else own) at_next
  rest_same is.Group own = ap (λ (x : Entry). if has_next p n then groups own x.rest else own) at_next
  rest_same _ own = ap (λ (x : Entry). if has_next p n then in_turn own x.rest else own) at_next

  pub entry_same : entry_at p f e n ≡ entry_at p f g n
  entry_same = ap (λ own. record { own = own; rest = rest_by (label p n) p e n own }) (course_same (label p n))
      ∙ ap (λ rest. record { own = course_at p f g n; rest = rest }) (rest_same (label p n) (course_at p f g n))

-- ---- the computed table

module _ (p : Rows) (f : Facts) where
  entries_length : (k : ℕ) → length (entries p f k) ≡ k
  entries_length zero = refl
  entries_length (suc k) = let h = entries_length k in omega (arith, length-append (entries p f k) (entry_at p f (later (length p) (entries p f k)) (length p - 1 - k) ∷ []))

  -- a later table has the entries of an earlier one
  kept : (k more i : ℕ) → i < k → get_or (entries p f (k + more)) i nothing ≡ get_or (entries p f k) i nothing
  kept k zero i lt = let s : k + 0 ≡ k = omega arith in ap (λ j. get_or (entries p f j) i nothing) s
  kept k (suc more) i lt = let s : k + suc more ≡ suc (k + more) = omega arith in ap (λ j. get_or (entries p f j) i nothing) s
      ∙ get_or-append (entries p f (k + more)) (entry_at p f (later (length p) (entries p f (k + more))) (length p - 1 - (k + more)) ∷ []) nothing i (omega (arith, entries_length (k + more)))
      ∙ kept k more i lt

  newest : (k : ℕ) → get_or (entries p f (suc k)) k nothing ≡ entry_at p f (later (length p) (entries p f k)) (length p - 1 - k)
  newest k = ap (λ j. get_or (entries p f (suc k)) j nothing) (sym (entries_length k))
      ∙ get_or-append_seam (entries p f k) (entry_at p f (later (length p) (entries p f k)) (length p - 1 - k)) [] nothing

  read : (all : List Entry) (m : ℕ) → m < length p → later (length p) all m ≡ get_or all (length p - 1 - m) nothing
  read all m lt = ap (λ b. if b then get_or all (length p - 1 - m) nothing else nothing) (lt_true m (length p) lt)

  past : (all : List Entry) (m : ℕ) → length p ≤ m → later (length p) all m ≡ nothing
  past all m le = ap (λ b. if b then get_or all (length p - 1 - m) nothing else nothing) (lt_false m (length p) le)

  -- the table of the rows behind n agrees with the whole one there
  agrees : (n m : ℕ) → n < length p → n < m → later (length p) (entries p f (length p - 1 - n)) m ≡ later (length p) (entries p f (length p)) m
  agrees n m inside lt = ⊎_elim
      (λ here. let k = length p - 1 - n in
      let all : k + (n + 1) ≡ length p = omega arith in
      read (entries p f k) m here ∙ sym (kept k (n + 1) (length p - 1 - m) (omega arith)) ∙ ap (λ j. get_or (entries p f j) (length p - 1 - m) nothing) all ∙ sym (read (entries p f (length p)) m here))
      (λ out. past (entries p f (length p - 1 - n)) m out ∙ sym (past (entries p f (length p)) m out))
      (cases_lt m (length p))

  whole : (n : ℕ) → n < length p → later (length p) (entries p f (length p)) n ≡ entry_at p f (later (length p) (entries p f (length p - 1 - n))) n
  whole n inside = let k = length p - 1 - n in
      let all : suc k + n ≡ length p = omega arith in
      let back : length p - 1 - k ≡ n = omega arith in
      read (entries p f (length p)) n inside ∙ ap (λ j. get_or (entries p f j) k nothing) (sym all) ∙ kept (suc k) n k (omega arith) ∙ newest k
      ∙ ap (λ j. entry_at p f (later (length p) (entries p f k)) j) back

  module _ (r : ReadsLater p f) where
    computed : AreCourses p f (later (length p) (entries p f (length p)))
    computed = record {
      inside = λ n lt. whole n lt ∙ entry_same p f r (later (length p) (entries p f (length p - 1 - n))) (later (length p) (entries p f (length p))) n (λ m. agrees n m lt);
      outside = past (entries p f (length p));
    }

    only : (e g : Entries) → AreCourses p f e → AreCourses p f g → (k n : ℕ) → length p ≤ n + k → e n ≡ g n
    only e g a b zero n le = a.outside n (omega arith) ∙ sym (b.outside n (omega arith))
    only e g a b (suc k) n le = ⊎_elim
        (λ lt. a.inside n lt ∙ entry_same p f r e g n (λ m before. only e g a b k m (omega arith)) ∙ sym (b.inside n lt))
        (λ out. a.outside n out ∙ sym (b.outside n out))
        (cases_lt n (length p))

pub each_has_courses : EachHasCourses
each_has_courses p f r = record {
  computed = computed p f r;
  only = λ e g a b n. only p f r e g a b (length p) n (omega arith);
}
