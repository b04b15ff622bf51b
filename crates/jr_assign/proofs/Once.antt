-- What is assigned before and behind a row depends on what is so before it alone.
use Rattle.std.proofs.Common.{◌≡◌, refl, sym, ◌∙◌, ap, ap₂, subst, ⊎_elim, arith, ℕ, zero, suc, ◌+◌, ◌-◌, ◌<◌, ◌≤◌, Bool, true, false, not, ◌&&◌, if◌then◌else◌, List, [], ◌∷◌, length, Option, Some, None, nat_eq, nat_lt}
use Rattle.std.proofs.lemmas.Bool.{false≢true, cases_eq, cases_lt, cases_Bool, ltb-true, lt-ltb, ltb-false}
use Rattle.std.proofs.lemmas.Bool.Decides.{Decides-eqb}
use Rattle.jr_base.specs.declared.kind.Symbol.TheVariants as y
use Rattle.jr_tree.specs.declared.label.Label.{Label}
use Rattle.jr_tree.specs.declared.label.Label.TheVariants as is
use Rattle.jr_tree.specs.Rows.{Rows, label, parent, end, previous}
use Rattle.jr_tree.specs.Tree.{IsTree}
use Rattle.jr_plain.proofs.Children.{IsChild}
use Rattle.jr_assign.specs.declared.fact.Way.{Way}
use Rattle.jr_assign.specs.declared.fact.Way.TheVariants as way
use Rattle.jr_assign.specs.Changes.{Facts, fact}
use Rattle.jr_assign.specs.Sets.{Sets, both_of}
use Rattle.jr_assign.specs.Assigned as tell
use Rattle.jr_assign.specs.Assigned.{Seen, Gain, first, second, third, last_part, AreAssigned}
use Rattle.jr_assign.proofs.Inside.{both_true, not_true, eq_true, next_child, first_child, first_starts, next_starts, IsStart, IsLastChild, child_ends, last_tells, before_last}

if_same : {A : Type 0} {x x' y y' : A} (b : Bool) → (b ≡ true → x ≡ x') → (b ≡ false → y ≡ y') → (if b then x else y) ≡ (if b then x' else y')
if_same true h k = h refl
if_same false h k = k refl

module _ {A : Type 0} (s : Sets A) where
  both_of_same : (test : ℕ → Bool) (v w : ℕ → A) (k : ℕ) → ((i : ℕ) → i < k → test i ≡ true → v i ≡ w i) → both_of s test v k ≡ both_of s test w k
  both_of_same test v w zero h = refl
  both_of_same test v w (suc k) h = let more = both_of_same test v w k (λ i lt t. h i (omega arith) t) in
      if_same (test k) (λ t. ap₂ s.both more (h k (omega arith) t)) (λ f. more)

-- two tables have the same at a row, and at all rows of an interval
pub record IsSame {A : Type 0} (a b : ℕ → Seen A) (n : ℕ) : Type 0 where
  pub before : (a n).before ≡ (b n).before
  pub done : (a n).done ≡ (b n).done
  pub yes : (a n).yes ≡ (b n).yes
  pub no : (a n).no ≡ (b n).no

abbrev pub AreSame : {A : Type 0} → (ℕ → Seen A) → (ℕ → Seen A) → ℕ → ℕ → Type 0
AreSame a b low high = (m : ℕ) → low ≤ m → m < high → IsSame a b m

abbrev pub is_for : Label → Bool
is_for (is.For has_first has_condition) = true
is_for _ = false

pub for_tells : (l : Label) → is_for l ≡ true → (has_first : Bool) × (has_condition : Bool) × (l ≡ is.For has_first has_condition)
for_tells (is.For has_first has_condition) h = (has_first, has_condition, refl)
for_tells _ h = absurd (false≢true h)

module _ {A : Type 0} (s : Sets A) (p : Rows) (tree : IsTree p) (f : Facts) (lasts : (n : ℕ) → tell.has_last p f n ≡ true) (root : ℕ) (there : root < length p) (a b : ℕ → Seen A) where
  abbrev ma : ℕ → tell.Met A
  ma = tell.met_at s p f (tell.guarded_in p root) a

  abbrev mb : ℕ → tell.Met A
  mb = tell.met_at s p f (tell.guarded_in p root) b

  abbrev Same : ℕ → Type 0
  Same n = IsSame a b n

  abbrev AllSame : ℕ → ℕ → Type 0
  AllSame low high = AreSame a b low high

  last_same : (n low high : ℕ) → AllSame low high → low ≤ n → n < high → end p n ≤ high → tell.behind_last f a n ≡ tell.behind_last f b n
  last_same n low high all le lt ends = by (last_part f n) refl
    where
      by : (o : Option ℕ) → last_part f n ≡ o → tell.behind_part f a o n ≡ tell.behind_part f b o n
      by None e = (all n le lt).before
      by (Some c) e = let last = last_tells p tree f lasts n c e in let after = last.child.0 in let ends_so = (child_ends p tree n c last.child).0 in (all c (omega arith) (omega arith)).done

  passed_same : (j low high : ℕ) → AllSame low high → ((t : ℕ) → tell.passes p f j t ≡ true → (low ≤ t) × ((t < high) × (end p t ≤ high))) → (ts : List ℕ) (x y : A) → x ≡ y
      → tell.passed s p f (tell.guarded_in p root) a j ts x ≡ tell.passed s p f (tell.guarded_in p root) b j ts y
  passed_same j low high all closed [] x y e = e
  passed_same j low high all closed (t ∷ ts) x y e = passed_same j low high all closed ts _ _
      (if_same (tell.passes p f j t) (λ h. let within = closed t h in ap₂ s.either e (last_same t low high all within.0 within.1.0 within.1.1)) (λ no. e))

  -- what a jump of the interval arrives with
  arrives_same : (j low high : ℕ) → AllSame low high → low ≤ j → j < high → end p j ≤ high
      → ((t : ℕ) → tell.passes p f j t ≡ true → (low ≤ t) × ((t < high) × (end p t ≤ high))) → tell.arrives s p f (tell.guarded_in p root) a j ≡ tell.arrives s p f (tell.guarded_in p root) b j
  arrives_same j low high all le lt ends closed = passed_same j low high all closed (tell.guarded_in p root) _ _ (last_same j low high all le lt ends)

  -- ---- jumps

  record Leaves (n j : ℕ) : Type 0 where
    after : n < j
    over : (t : ℕ) → tell.is_over (fact f j).way t ≡ true → n < t

  record PassedBy (j t : ℕ) : Type 0 where
    after : t < j
    inside : j < end p t
    over : tell.is_over (fact f j).way t ≡ true

  passed_tells : (j t : ℕ) → tell.passes p f j t ≡ true → PassedBy j t
  passed_tells j t e = let parts = both_true _ _ e in let more = both_true _ _ parts.1 in let round = both_true _ _ more.0 in let out = both_true _ _ more.1 in
      record { after = ltb-true t j round.0; inside = ltb-true j (end p t) round.1; over = out.1 }

  break_tells : (w : Option Way) (n j : ℕ) → (fact f j).way ≡ w → tell.is_break_to w n ≡ true → (t : ℕ) → tell.is_over (fact f j).way t ≡ true → n < t
  break_tells None n j e h = absurd (false≢true h)
  break_tells (Some (way.Break m)) n j e h = λ t over. subst (λ m. m < t) ((Decides-eqb m n).0 h) (ltb-true m t (sym (ap (λ w. tell.is_over w t) e) ∙ over))
  break_tells (Some (way.Continue m)) n j e h = absurd (false≢true h)
  break_tells (Some way.Return) n j e h = absurd (false≢true h)

  continue_tells : (w : Option Way) (n j : ℕ) → (fact f j).way ≡ w → tell.is_continue_to w n ≡ true → (t : ℕ) → tell.is_over (fact f j).way t ≡ true → n < t
  continue_tells None n j e h = absurd (false≢true h)
  continue_tells (Some (way.Continue m)) n j e h = λ t over. subst (λ m. m < t) ((Decides-eqb m n).0 h) (ltb-true m t (sym (ap (λ w. tell.is_over w t) e) ∙ over))
  continue_tells (Some (way.Break m)) n j e h = absurd (false≢true h)
  continue_tells (Some way.Return) n j e h = absurd (false≢true h)

  -- all breaks that leave the row stand inside it
  broken_same : (n : ℕ) → n < length p → AllSame (n + 1) (end p n) → (ma n).broken ≡ (mb n).broken
  broken_same n in_p all = both_of_same s _ _ _ (end p n - (n + 1)) (λ i small e. let j = n + 1 + i in
      let inside : j < end p n = omega arith in let over = break_tells (fact f j).way n j refl e in
      arrives_same j (n + 1) (end p n) all (omega arith) inside (tree.apart n j (omega arith) inside)
      (λ t passed. let by = passed_tells j t passed in let above = over t by.over in let low = by.after in let ends = tree.apart n t above (omega arith) in (omega arith, (omega arith, ends))))

  -- those of a `do` stand in its first part
  continued_in_first : (n : ℕ) → n < length p → label p n ≡ is.Do → IsChild p n (n + 1) → AllSame (n + 1) (second p n) → (ma n).continued ≡ (mb n).continued
  continued_in_first n in_p is_do child all = both_of_same s _ _ _ (end p n - (n + 1)) (λ i small e. let j = n + 1 + i in let h = both_true _ _ e in
      let body = both_true (nat_lt n j) (nat_lt j (second p n)) (sym (ap (λ l. tell.is_in_body l p f n j) is_do) ∙ h.1) in let over = continue_tells (fact f j).way n j refl h.0 in
      let after = ltb-true n j body.0 in let inside = ltb-true j (second p n) body.1 in
      arrives_same j (n + 1) (second p n) all (omega arith) inside (within j after inside)
      (λ t passed. let by = passed_tells j t passed in let above = over t by.over in let low = by.after in let lower : t < second p n = omega arith in (omega arith, (lower, within t above lower))))
    where
      within : (m : ℕ) → n < m → m < second p n → end p m ≤ second p n
      within m lt inside = ⊎_elim (λ e. subst (λ x. end p x ≤ end p (n + 1)) e (omega arith)) (λ apart. tree.apart (n + 1) m (omega arith) inside) (cases_eq (n + 1) m)

  -- those of a `for` stand in its last part
  continued_in_last : (n c : ℕ) → n < length p → tell.is_in_body (label p n) p f n ≡ tell.is_in_last p f n → last_part f n ≡ Some c → AllSame c (end p n) → (ma n).continued ≡ (mb n).continued
  continued_in_last n c in_p in_body is_last all = both_of_same s _ _ _ (end p n - (n + 1)) (λ i small e. let j = n + 1 + i in let h = both_true _ _ e in
      let body = both_true (not (nat_lt j c)) (nat_lt j (end p n)) (sym (ap (λ (g : ℕ → Bool). g j) in_body ∙ ap (λ o. tell.is_from o p n j) is_last) ∙ h.1) in let over = continue_tells (fact f j).way n j refl h.0 in
      let last = last_tells p tree f lasts n c is_last in let after = last.child.0 in
      let from = ltb-false j c (not_true _ body.0) in let inside = ltb-true j (end p n) body.1 in
      arrives_same j c (end p n) all from inside (tree.apart n j (omega arith) inside)
      (λ t passed. let by = passed_tells j t passed in let above = over t by.over in let low = by.after in let high = by.inside in
      let ends = tree.apart n t above (omega arith) in (behind t c last above high from, (omega arith, ends))))
    where
      behind : {j : ℕ} (t c : ℕ) → IsLastChild p n c → n < t → j < end p t → c ≤ j → c ≤ t
      behind t c last above high from = ⊎_elim (λ lt. let less = before_last p tree n c t in_p last above lt in absurd (omega arith)) (λ le. le) (cases_lt t c)

  caught_same : (n : ℕ) → n < length p → AllSame (n + 1) (end p n) → (ma n).caught ≡ (mb n).caught
  caught_same n in_p all = both_of_same s _ _ _ (end p n - (n + 1)) (λ i small e. (all (n + 1 + i) (omega arith) (omega arith)).done)

  -- ---- behind a row

  module _ (n : ℕ) (in_p : n < length p) (all : AllSame (n + 1) (end p n)) (start : (a n).before ≡ (b n).before) where
    inner_same : tell.behind_last f a n ≡ tell.behind_last f b n
    inner_same = by (last_part f n) refl
      where
        by : (o : Option ℕ) → last_part f n ≡ o → tell.behind_part f a o n ≡ tell.behind_part f b o n
        by None e = start
        by (Some c) e = let last = last_tells p tree f lasts n c e in let after = last.child.0 in let ends_so = (child_ends p tree n c last.child).0 in (all c (omega arith) (omega arith)).done

    at_first : nat_lt (second p n) (end p n) ≡ true → Same (first n)
    at_first h = let lt = ltb-true _ _ h in let up = tree.nested (n + 1) in all (n + 1) (omega arith) (omega arith)

    only_first : nat_lt (first n) (end p n) ≡ true → Same (first n)
    only_first h = all (n + 1) (omega arith) (ltb-true _ _ h)

    at_second : nat_lt (second p n) (end p n) ≡ true → Same (second p n)
    at_second h = let lt = ltb-true _ _ h in let up = tree.nested (n + 1) in all (second p n) (omega arith) (omega arith)

    at_third : nat_lt (third p n) (end p n) ≡ true → Same (third p n)
    at_third h = let lt = ltb-true _ _ h in let up = tree.nested (n + 1) in let further = tree.nested (second p n) in all (third p n) (omega arith) (omega arith)

    two_parts : nat_lt (third p n) (end p n) ≡ true → nat_lt (second p n) (end p n) ≡ true
    two_parts h = let lt = ltb-true _ _ h in let further = tree.nested (second p n) in lt-ltb _ _ (omega arith)

    broken_so : (ma n).broken ≡ (mb n).broken
    broken_so = broken_same n in_p all

    plain_same : {x x' : A} → x ≡ x' → tell.plain s p f a ma x ≡ tell.plain s p f b mb x'
    plain_same e = ap (λ (x : A). record { done = x; yes = x; no = x }) e

    loop_same : {x x' : A} → x ≡ x' → tell.loop_gain s p f a ma n x ≡ tell.loop_gain s p f b mb n x'
    loop_same e = plain_same (ap₂ s.both e broken_so)

    abbrev bundle : A → A → A → Gain A
    bundle x y z = record { done = x; yes = y; no = z }

    gains_same : {x x' y y' z z' : A} → x ≡ x' → y ≡ y' → z ≡ z' → ◌≡◌ {A = Gain A} (record { done = x; yes = y; no = z }) (record { done = x'; yes = y'; no = z' })
    gains_same {x} {x'} {y} {y'} {z} {z'} e g h = ap₂ (λ (x : A) (y : A). bundle x y z) e g ∙ ap (λ (z : A). bundle x' y' z) h

    test_part : (has_first : Bool) (o : Option ℕ) → last_part f n ≡ o → tell.ends_by o (tell.for_update p n has_first true) ≡ true → Same (tell.for_test p n has_first)
    test_part has_first None e h = absurd (false≢true h)
    test_part has_first (Some c) e h = let last = last_tells p tree f lasts n c e in let in_c = (child_ends p tree n c last.child).0 in
        let le = ltb-false c (end p (tell.for_test p n has_first)) (not_true _ h) in let up = tree.nested (tell.for_test p n has_first) in
        all (tell.for_test p n has_first) (low has_first) (omega arith)
      where
        low : (h : Bool) → n + 1 ≤ tell.for_test p n h
        low true = let up = tree.nested (n + 1) in omega arith
        low false = omega arith

    for_end_same : (has_first has_condition : Bool) → tell.ends_by (last_part f n) (tell.for_update p n has_first has_condition) ≡ true → tell.for_end s p f a ma n has_first has_condition ≡ tell.for_end s p f b mb n has_first has_condition
    for_end_same has_first false h = refl
    for_end_same has_first true h = (test_part has_first (last_part f n) refl h).no

    switch_same : nat_lt (first n) (end p n) ≡ true → (d : Bool) → tell.plain s p f a ma (if d then s.both (tell.behind_last f a n) ((ma n).broken) else s.both (s.both (tell.behind_last f a n) ((ma n).broken)) (a (first n)).done)
        ≡ tell.plain s p f b mb (if d then s.both (tell.behind_last f b n) ((mb n).broken) else s.both (s.both (tell.behind_last f b n) ((mb n).broken)) (b (first n)).done)
    switch_same h true = plain_same (ap₂ s.both inner_same broken_so)
    switch_same h false = plain_same (ap₂ s.both (ap₂ s.both inner_same broken_so) (only_first h).done)

    tried_same : nat_lt (first n) (end p n) ≡ true → tell.tried s p f a ma n ≡ tell.tried s p f b mb n
    tried_same h = ap₂ s.both (only_first h).done (caught_same n in_p all)

    assigned_same : (o : Option ℕ) → tell.with_assigned s o (tell.behind_last f a n) ≡ tell.with_assigned s o (tell.behind_last f b n)
    assigned_same None = inner_same
    assigned_same (Some v) = ap (λ x. s.either (s.one v) x) inner_same

    gain_same : (l : Label) → tell.has_parts_in l p f n ≡ true → tell.gain_in s p f a ma l n ≡ tell.gain_in s p f b mb l n
    gain_same is.If h = plain_same (ap₂ s.both (at_second h).done (if_same (nat_lt (third p n) (end p n)) (λ t. (at_third t).done) (λ f. (at_first h).no)))
    gain_same is.While h = loop_same (at_first h).no
    gain_same is.Do h = loop_same (at_second h).no
    gain_same (is.For has_first has_condition) h = loop_same (for_end_same has_first has_condition h)
    gain_same is.Switch h = switch_same h (fact f n).has_default
    gain_same is.Labeled h = plain_same (ap₂ s.both inner_same broken_so)
    gain_same (is.Break has_label) h = refl
    gain_same (is.Continue has_label) h = refl
    gain_same is.Return h = refl
    gain_same is.Throw h = refl
    gain_same (is.Try true) h = plain_same (ap₂ s.either (tried_same h) inner_same)
    gain_same (is.Try false) h = plain_same (tried_same h)
    gain_same is.Conditional h = let x = at_second (two_parts h) in let y = at_third h in gains_same (ap₂ s.both x.done y.done) (ap₂ s.both x.yes y.yes) (ap₂ s.both x.no y.no)
    gain_same (is.Binary y.AndAnd) h = let x = at_first h in let y = at_second h in let no = ap₂ s.both x.no y.no in gains_same (ap₂ s.both y.yes no) y.yes no
    gain_same (is.Binary y.OrOr) h = let x = at_first h in let y = at_second h in let yes = ap₂ s.both x.yes y.yes in gains_same (ap₂ s.both yes y.no) yes y.no
    gain_same (is.Unary y.Not) h = let x = only_first h in gains_same x.done x.no x.yes
    gain_same is.Paren h = let x = only_first h in gains_same x.done x.yes x.no
    gain_same _ h = plain_same (assigned_same (fact f n).assigned)

    known_same : (o : Option Bool) (x x' : Gain A) → x ≡ x' → tell.known s p f a ma o n x ≡ tell.known s p f b mb o n x'
    known_same None x x' e = e
    known_same (Some true) x x' e = ap (λ (x : A). record { done = x; yes = x; no = s.all }) start
    known_same (Some false) x x' e = ap (λ (x : A). record { done = x; yes = s.all; no = x }) start

    pub behind_same : tell.has_parts p f n ≡ true → tell.gain_at s p f a ma n ≡ tell.gain_at s p f b mb n
    behind_same h = known_same (fact f n).truth _ _ (gain_same (label p n) h)

  -- ---- before a row that stands right in another

  module _ (n : ℕ) (in_p : n < length p) (start : (a n).before ≡ (b n).before) (c : ℕ) (child : IsChild p n c) (so_far : AllSame (n + 1) c) where
    in_end : c < end p n
    in_end = (child_ends p tree n c child).0

    siblings_same : tell.behind s p f a ma c ≡ tell.behind s p f b mb c
    siblings_same = if_same (nat_lt (parent p c) (previous p c))
        (λ t. let lt = ltb-true _ _ t in let up = child.1 in let after = child.0 in let most = tree.last n in_p in let here = in_end in
        (so_far (previous p c) (omega arith) (tree.before c (omega arith) (omega arith))).done)
        (λ f. subst (λ q. (a q).before ≡ (b q).before) (sym child.1) start)

    behind_first : nat_eq c (first n) ≡ false → Same (first n)
    behind_first e = let after = child.0 in ⊎_elim (λ same. absurd (false≢true (sym e ∙ eq_true c (n + 1) same))) (λ apart. so_far (n + 1) (omega arith) (omega arith)) (cases_eq c (n + 1))

    test_same : tell.by_test s p f a ma n c ≡ tell.by_test s p f b mb n c
    test_same = if_same (nat_eq c (first n)) (λ t. start) (λ f. if_same (nat_eq c (second p n)) (λ t. (behind_first f).yes) (λ g. (behind_first f).no))

    failure_same : tell.by_failure s p f a ma n c ≡ tell.by_failure s p f b mb n c
    failure_same = if_same (nat_eq c (first n)) (λ t. start) (λ f. (behind_first f).no)

    do_same : label p n ≡ is.Do → tell.in_do s p f a ma n c ≡ tell.in_do s p f b mb n c
    do_same is_do = if_same (nat_eq c (first n)) (λ t. start) (λ e. let after = child.0 in ⊎_elim
        (λ same. absurd (false≢true (sym e ∙ eq_true c (n + 1) same)))
        (λ apart. let here = in_end in let one = first_child p tree n in_p (omega arith) in let next = next_child p tree n (n + 1) c one (omega arith) child in
        ap₂ s.both (continued_in_first n in_p is_do one (λ m le lt. so_far m le (omega arith))) (behind_first e).done)
        (cases_eq c (n + 1)))

    switch_so : tell.in_switch s p f a ma n c ≡ tell.in_switch s p f b mb n c
    switch_so = if_same (nat_eq c (first n)) (λ t. start) (λ f. ap₂ s.both (behind_first f).done siblings_same)

    module _ (has_first has_condition : Bool) (other : tell.is_row (last_part f n) c ≡ false)
        (updates : c ≡ tell.for_update p n has_first has_condition → s.both ((ma n).continued) (tell.behind_last f a n) ≡ s.both ((mb n).continued) (tell.behind_last f b n)) where
      begins_same : (h : Bool) → c ≡ tell.for_test p n h → tell.for_start s p f a ma n h ≡ tell.for_start s p f b mb n h
      begins_same true e = let up = tree.nested (n + 1) in (so_far (n + 1) (omega arith) (omega arith)).done
      begins_same false e = start

      for_same : tell.in_for s p f a ma n has_first has_condition c ≡ tell.in_for s p f b mb n has_first has_condition c
      for_same = if_same (tell.is_row (last_part f n) c) (λ t. absurd (false≢true (sym other ∙ t))) (λ e.
          if_same (has_first && nat_eq c (first n)) (λ t. start) (λ e.
          if_same (has_condition && nat_eq c (tell.for_test p n has_first)) (λ t. begins_same has_first ((Decides-eqb _ _).0 (both_true _ _ t).1)) (λ e.
          if_same (nat_eq c (tell.for_update p n has_first has_condition)) (λ t. updates ((Decides-eqb _ _).0 t)) (λ e. siblings_same))))

    in_same : ((has_first has_condition : Bool) → label p n ≡ is.For has_first has_condition → tell.in_for s p f a ma n has_first has_condition c ≡ tell.in_for s p f b mb n has_first has_condition c)
        → (l : Label) → label p n ≡ l → tell.before_in s p f a ma l n c ≡ tell.before_in s p f b mb l n c
    in_same fors is.If e = test_same
    in_same fors is.While e = test_same
    in_same fors is.Conditional e = test_same
    in_same fors (is.Binary y.AndAnd) e = test_same
    in_same fors (is.Binary y.OrOr) e = failure_same
    in_same fors is.Do e = do_same e
    in_same fors (is.For has_first has_condition) e = fors has_first has_condition e
    in_same fors is.Switch e = switch_so
    in_same fors (is.Try has_finally) e = start
    in_same fors _ e = siblings_same

    pub before_same : ((has_first has_condition : Bool) → label p n ≡ is.For has_first has_condition → tell.in_for s p f a ma n has_first has_condition c ≡ tell.in_for s p f b mb n has_first has_condition c)
        → tell.before_at s p f a ma c ≡ tell.before_at s p f b mb c
    before_same fors = ap (λ x. tell.declared s (label p c) c x)
        (subst (λ q. tell.before_in s p f a ma (label p q) q c ≡ tell.before_in s p f b mb (label p q) q c) (sym child.1) (in_same fors (label p n) refl))

  -- ---- a child of a row, by what stands before it

  module _ (n : ℕ) (in_p : n < length p) (e : (a n).before ≡ (b n).before) where
    pub in_turn : is_for (label p n) ≡ false → (c : ℕ) → IsChild p n c → AllSame (n + 1) c → tell.before_at s p f a ma c ≡ tell.before_at s p f b mb c
    in_turn no_for c child so_far = before_same n in_p e c child so_far (λ h k is_for_so. absurd (false≢true (sym no_for ∙ ap is_for is_for_so)))

    module _ (has_first has_condition : Bool) (is_for_so : label p n ≡ is.For has_first has_condition) (last : ℕ) (is_last : last_part f n ≡ Some last) (ends : tell.for_update p n has_first has_condition ≤ last) where
      abbrev update : ℕ
      update = tell.for_update p n has_first has_condition

      body : IsLastChild p n last
      body = last_tells p tree f lasts n last is_last

      apart_from : (c : ℕ) → c < last → tell.is_row (last_part f n) c ≡ false
      apart_from c lt = ap (λ o. tell.is_row o c) is_last ∙ ⊎_elim (λ t. let same = (Decides-eqb last c).0 t in absurd (omega arith)) (λ f. f) (cases_Bool (nat_eq last c))

      same_for : (h k : Bool) → label p n ≡ is.For h k → (h ≡ has_first) × (k ≡ has_condition)
      same_for h k e = let both = sym e ∙ is_for_so in (cc, cc)

      -- the header
      pub in_header : (c : ℕ) → IsChild p n c → c < update → AllSame (n + 1) c → tell.before_at s p f a ma c ≡ tell.before_at s p f b mb c
      in_header c child lt so_far = before_same n in_p e c child so_far
          (λ h k so. let same = same_for h k so in for_same n in_p e c child so_far h k (apart_from c (omega arith))
          (λ at. let is_h = ap₂ (tell.for_update p n) same.0 same.1 in absurd (omega arith)))

      turns : AllSame (n + 1) update → (h k : Bool) → h ≡ has_first → k ≡ has_condition → tell.for_turn s p f a ma n h k ≡ tell.for_turn s p f b mb n h k
      turns header h true is_h is_k = let at = ap₂ (tell.for_update p n) is_h is_k in let up = tree.nested (tell.for_test p n h) in (header (tell.for_test p n h) (low_test h) (omega arith)).yes
        where
          low_test : (h : Bool) → n + 1 ≤ tell.for_test p n h
          low_test true = let up = tree.nested (n + 1) in omega arith
          low_test false = omega arith
      turns header true false is_h is_k = let at = ap₂ (tell.for_update p n) is_h is_k in let up = tree.nested (n + 1) in (header (n + 1) (omega arith) (omega arith)).done
      turns header false false is_h is_k = e

      -- the body, behind the header
      pub at_body : AllSame (n + 1) update → tell.before_at s p f a ma last ≡ tell.before_at s p f b mb last
      at_body header = ap (λ x. tell.declared s (label p last) last x)
          (subst (λ q. tell.before_in s p f a ma (label p q) q last ≡ tell.before_in s p f b mb (label p q) q last) (sym body.child.1)
          (subst (λ l. tell.before_in s p f a ma l n last ≡ tell.before_in s p f b mb l n last) (sym is_for_so) (in_it has_first has_condition is_for_so)))
        where
          is_it : tell.is_row (last_part f n) last ≡ true
          is_it = ap (λ o. tell.is_row o last) is_last ∙ eq_true last last refl

          in_it : (h k : Bool) → label p n ≡ is.For h k → tell.in_for s p f a ma n h k last ≡ tell.in_for s p f b mb n h k last
          in_it h k so = let same = same_for h k so in if_same (tell.is_row (last_part f n) last) (λ t. turns header h k same.0 same.1) (λ no. absurd (false≢true (sym no ∙ is_it)))

      in_body_of : tell.is_in_body (label p n) p f n ≡ tell.is_in_last p f n
      in_body_of = ap (λ l. tell.is_in_body l p f n) is_for_so

      -- the updates, behind the body
      pub in_updates : (c : ℕ) → IsChild p n c → c < last → AllSame (n + 1) c → AllSame last (end p n) → tell.before_at s p f a ma c ≡ tell.before_at s p f b mb c
      in_updates c child lt so_far body_same = before_same n in_p e c child so_far
          (λ h k so. let same = same_for h k so in for_same n in_p e c child so_far h k (apart_from c lt) (λ at. updates_same))
        where
          updates_same : s.both ((ma n).continued) (tell.behind_last f a n) ≡ s.both ((mb n).continued) (tell.behind_last f b n)
          updates_same = let lt = (child_ends p tree n last body.child).0 in ap₂ s.both (continued_in_last n last in_p in_body_of is_last body_same)
              (subst (λ o. tell.behind_part f a o n ≡ tell.behind_part f b o n) (sym is_last) (body_same last (omega arith) lt).done)

-- ---- the parts of a `for`

module _ (p : Rows) (tree : IsTree p) (f : Facts) (n : ℕ) (in_p : n < length p) (has_first has_condition : Bool) where
  pub low_update : n + 1 ≤ tell.for_update p n has_first has_condition
  low_update = by has_first has_condition
    where
      by : (h k : Bool) → n + 1 ≤ tell.for_update p n h k
      by true true = let up = tree.nested (n + 1) in let further = tree.nested (end p (n + 1)) in omega arith
      by true false = let up = tree.nested (n + 1) in omega arith
      by false true = let up = tree.nested (n + 1) in omega arith
      by false false = omega arith

  -- its updates begin where a child ends
  pub update_starts : (last : ℕ) → IsChild p n last → tell.for_update p n has_first has_condition ≤ last → IsStart p n (tell.for_update p n has_first has_condition)
  update_starts last child = by has_first has_condition
    where
      inside : last < end p n
      inside = (child_ends p tree n last child).0

      one : IsChild p n (n + 1)
      one = let after = child.0 in let lt = inside in first_child p tree n in_p (omega arith)

      by : (h k : Bool) → tell.for_update p n h k ≤ last → IsStart p n (tell.for_update p n h k)
      by true true le = let lt = inside in let further = tree.nested (end p (n + 1)) in next_starts p tree n (end p (n + 1)) in_p (next_starts p tree n (n + 1) in_p one (omega arith))
      by true false le = next_starts p tree n (n + 1) in_p one
      by false true le = next_starts p tree n (n + 1) in_p one
      by false false le = first_starts p tree n in_p

  -- it has a body, behind its updates
  pub for_ends : label p n ≡ is.For has_first has_condition → tell.has_parts p f n ≡ true → (last : ℕ) × (last_part f n ≡ Some last) × (tell.for_update p n has_first has_condition ≤ last)
  for_ends is_for_so parts = by (last_part f n) refl
    where
      test : (o : Option ℕ) → last_part f n ≡ o → tell.ends_by o (tell.for_update p n has_first has_condition) ≡ true
      test o e = sym (ap (λ o. tell.ends_by o (tell.for_update p n has_first has_condition)) e) ∙ sym (ap (λ l. tell.has_parts_in l p f n) is_for_so) ∙ parts

      by : (o : Option ℕ) → last_part f n ≡ o → (last : ℕ) × (last_part f n ≡ Some last) × (tell.for_update p n has_first has_condition ≤ last)
      by None e = absurd (false≢true (test None e))
      by (Some last) e = (last, e, ltb-false last _ (not_true _ (test (Some last) e)))
