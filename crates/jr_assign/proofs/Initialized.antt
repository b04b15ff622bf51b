-- A local with an initializer is assigned wherever it is in scope: the equations say so of each table in which it is.
use Rattle.std.proofs.Common.{◌≡◌, refl, sym, ◌∙◌, ap, ap₂, subst, ⊎_elim, arith, ℕ, zero, suc, ◌+◌, ◌-◌, ◌<◌, ◌≤◌, Bool, true, false, not, ◌&&◌, ◌||◌, if◌then◌else◌, List, [], ◌∷◌, length, Option, Some, None, is_none, nat_eq, nat_lt, slice_set}
use Rattle.std.proofs.lemmas.Bool.{false≢true, cases_eq, cases_lt, ltb-true, ltb-false, lt-ltb}
use Rattle.std.proofs.lemmas.Bool.Decides.{Decides-eqb}
use Rattle.jr_base.specs.declared.kind.Symbol.TheVariants as y
use Rattle.jr_tree.specs.declared.label.Label.{Label}
use Rattle.jr_tree.specs.declared.label.Label.TheVariants as is
use Rattle.jr_tree.specs.Rows.{Rows, label, parent, end, previous}
use Rattle.jr_tree.specs.Tree.{IsTree}
use Rattle.jr_plain.proofs.Children.{IsChild, child_below}
use Rattle.jr_assign.specs.declared.scope.Reads.{Reads}
use Rattle.jr_assign.specs.Changes.{Facts, fact, member_in}
use Rattle.jr_assign.specs.Sets.{Sets, only, both_of}
use Rattle.jr_assign.specs.Assigned as tell
use Rattle.jr_assign.specs.Assigned.{Seen, Gain, Met, first, second, last_part, AreAssigned}
use Rattle.jr_assign.specs.Confirmed.{IsWhole}
use Rattle.jr_assign.specs.Judged.{IsJudged, AreJudged, Verdicts}
use Rattle.jr_assign.specs.Initialized.{is_linked, are_linked, is_local, declares, holds_in, block, is_assigned, is_sure, noted_by, noted_at}
use Rattle.jr_assign.proofs.Inside.{both_true, not_true, eq_true, eq_false, IsLastChild, next_child, child_ends, last_tells}
use Rattle.jr_assign.proofs.Once.{IsSame, AreSame, behind_same, for_ends}
use Rattle.jr_assign.proofs.Following.{next_round, solution_holds, each_member}
use Rattle.jr_assign.proofs.Judging.{each_below, has_each_last, verdict_more}

-- ---- tests

if_so : (b : Bool) {x y : Bool} → (b ≡ true → x ≡ true) → (b ≡ false → y ≡ true) → (if b then x else y) ≡ true
if_so true h k = h refl
if_so false h k = k refl

if_true : (b : Bool) {x y : Bool} → x ≡ true → y ≡ true → (if b then x else y) ≡ true
if_true true h k = h
if_true false h k = k

and_true : {x y : Bool} → x ≡ true → y ≡ true → (x && y) ≡ true
and_true h k = ap₂ (λ x y. x && y) h k

or_true : (b : Bool) {x : Bool} → x ≡ true → (b || x) ≡ true
or_true true e = refl
or_true false e = e

true_or : {x : Bool} (y : Bool) → x ≡ true → (x || y) ≡ true
true_or y e = ap (λ x. x || y) e

none_tells : (o : Option Bool) → is_none o ≡ true → o ≡ None
none_tells None e = refl
none_tells (Some b) e = absurd (false≢true e)

row_tells : (o : Option ℕ) (n : ℕ) → tell.is_row o n ≡ true → o ≡ Some n
row_tells None n e = absurd (false≢true e)
row_tells (Some m) n e = ap (λ m. Some m) ((Decides-eqb m n).0 e)

-- ---- a table in which the variable is assigned at each row

abbrev pub full : ℕ → Seen Bool
full n = record { before = true; done = true; yes = true; no = true }

abbrev pub gained : Gain Bool
gained = record { done = true; yes = true; no = true }

module _ (v : ℕ) (p : Rows) (f : Facts) (guarded : List ℕ) where
  abbrev s : Sets Bool
  s = only v

  both_true_of : (test value : ℕ → Bool) (k : ℕ) → ((i : ℕ) → i < k → test i ≡ true → value i ≡ true) → both_of s test value k ≡ true
  both_true_of test value zero h = refl
  both_true_of test value (suc k) h = let rest = both_true_of test value k (λ i lt t. h i (omega arith) t) in if_so (test k) (λ t. and_true rest (h k (omega arith) t)) (λ no. rest)

  passed_true : (a : ℕ → Seen Bool) (b : ℕ) (ts : List ℕ) (x : Bool) → x ≡ true → tell.passed s p f guarded a b ts x ≡ true
  passed_true a b [] x e = e
  passed_true a b (t ∷ ts) x e = passed_true a b ts _ (if_true (tell.passes p f b t) (true_or (tell.behind_last f a t) e) e)

  abbrev mf : ℕ → Met Bool
  mf = tell.met_at s p f guarded full

  part_full : (o : Option ℕ) (n : ℕ) → tell.behind_part f full o n ≡ true
  part_full None n = refl
  part_full (Some c) n = refl

  last_full : (n : ℕ) → tell.behind_last f full n ≡ true
  last_full n = part_full (last_part f n) n

  arrives_full : (n : ℕ) → tell.arrives s p f guarded full n ≡ true
  arrives_full n = passed_true full n guarded _ (last_full n)

  broken_full : (n : ℕ) → (mf n).broken ≡ true
  broken_full n = both_true_of _ _ (end p n - first n) (λ i lt t. arrives_full (first n + i))

  caught_full : (n : ℕ) → (mf n).caught ≡ true
  caught_full n = both_true_of _ _ (end p n - first n) (λ i lt t. refl)

  plain_full : {x : Bool} → x ≡ true → tell.plain s p f full mf x ≡ gained
  plain_full e = ap (λ (x : Bool). record { done = x; yes = x; no = x }) e

  assigned_full : (o : Option ℕ) {x : Bool} → x ≡ true → tell.with_assigned s o x ≡ true
  assigned_full None e = e
  assigned_full (Some d) e = or_true (nat_eq d v) e

  switch_full : (d : Bool) (n : ℕ) → tell.plain s p f full mf (if d then s.both (tell.behind_last f full n) ((mf n).broken) else s.both (s.both (tell.behind_last f full n) ((mf n).broken)) true) ≡ gained
  switch_full true n = plain_full (and_true (last_full n) (broken_full n))
  switch_full false n = plain_full (and_true (and_true (last_full n) (broken_full n)) refl)

  for_end_full : (has_first has_condition : Bool) (n : ℕ) → tell.for_end s p f full mf n has_first has_condition ≡ true
  for_end_full has_first true n = refl
  for_end_full has_first false n = refl

  gain_full : (l : Label) (n : ℕ) → tell.gain_in s p f full mf l n ≡ gained
  gain_full is.If n = plain_full (if_true (nat_lt (tell.third p n) (end p n)) refl refl)
  gain_full is.While n = plain_full (broken_full n)
  gain_full is.Do n = plain_full (broken_full n)
  gain_full (is.For has_first has_condition) n = plain_full (and_true (for_end_full has_first has_condition n) (broken_full n))
  gain_full is.Switch n = switch_full (fact f n).has_default n
  gain_full is.Labeled n = plain_full (and_true (last_full n) (broken_full n))
  gain_full (is.Break has_label) n = refl
  gain_full (is.Continue has_label) n = refl
  gain_full is.Return n = refl
  gain_full is.Throw n = refl
  gain_full (is.Try true) n = plain_full (true_or (tell.behind_last f full n) (caught_full n))
  gain_full (is.Try false) n = plain_full (caught_full n)
  gain_full is.Conditional n = refl
  gain_full (is.Binary y.AndAnd) n = refl
  gain_full (is.Binary y.OrOr) n = refl
  gain_full (is.Unary y.Not) n = refl
  gain_full is.Paren n = refl
  gain_full _ n = plain_full (assigned_full (fact f n).assigned (last_full n))

  known_full : (o : Option Bool) (n : ℕ) (x : Gain Bool) → x ≡ gained → tell.known s p f full mf o n x ≡ gained
  known_full None n x e = e
  known_full (Some true) n x e = refl
  known_full (Some false) n x e = refl

  pub all_gained : (n : ℕ) → tell.gain_at s p f full mf n ≡ gained
  all_gained n = known_full (fact f n).truth n _ (gain_full (label p n) n)

  -- it is assigned before a row, but where it is declared there
  declared_true : (l : Label) (n : ℕ) (x : Bool) → nat_eq n v ≡ false → x ≡ true → tell.declared s l n x ≡ true
  declared_true (is.Local is_final dims) n x apart e = ap (λ b. if b then false else x) apart ∙ e
  declared_true _ n x apart e = e

-- ---- the scope of a local

pub record HasScope (p : Rows) (f : Facts) (root v : ℕ) : Type 0 where
  pub local : is_local (label p v) ≡ true
  pub truth : (fact f v).truth ≡ None
  pub assigned : (fact f v).assigned ≡ Some v
  pub declaration : declares (label p (parent p v)) ≡ true
  pub other_truth : (fact f (parent p v)).truth ≡ None
  pub holds : holds_in (label p (block p v)) (block p v) (parent p v) ≡ true
  pub below : parent p v < v
  pub inside : block p v < parent p v
  pub low : root < parent p v
  pub high : end p (block p v) ≤ end p root

pub record IsInScope (p : Rows) (f : Facts) (root v n : ℕ) : Type 0 where
  pub scope : HasScope p f root v
  pub low : end p v ≤ n
  pub high : n < end p (block p v)

scope_tells : (p : Rows) (f : Facts) (root v n : ℕ) → is_assigned p f root v n ≡ true → IsInScope p f root v n
scope_tells p f root v n e =
    let all = both_true _ _ e in
    let places = both_true _ _ all.1 in
    let row = both_true _ _ places.0 in
    let member = both_true _ _ places.1 in
    let first_parts = both_true _ _ all.0 in
    let local = both_true _ _ first_parts.0 in
    let value = both_true _ _ local.1 in
    let others = both_true _ _ first_parts.1 in
    let declaration = both_true _ _ others.0 in
    let rest = both_true _ _ others.1 in
    let order = both_true _ _ rest.1 in record {
      scope = record {
        local = local.0;
        truth = none_tells _ value.0;
        assigned = row_tells _ v value.1;
        declaration = declaration.0;
        other_truth = none_tells _ declaration.1;
        holds = rest.0;
        below = ltb-true (parent p v) v order.0;
        inside = ltb-true (block p v) (parent p v) order.1;
        low = ltb-true root (parent p v) member.0;
        high = ltb-false (end p root) (end p (block p v)) (not_true _ member.1);
      };
      low = ltb-false n (end p v) (not_true _ row.0);
      high = ltb-true n (end p (block p v)) row.1;
    }

-- what a table has: at each row of the scope the local is assigned, and behind its declarator and its declaration
pub record IsKept (p : Rows) (v : ℕ) (a : ℕ → Seen Bool) : Type 0 where
  pub rows : AreSame a full (end p v) (end p (block p v))
  pub local : (a v).done ≡ true
  pub declared : (a (parent p v)).done ≡ true

module _ (p : Rows) (tree : IsTree p) (f : Facts) (lasts : (n : ℕ) → tell.has_last p f n ≡ true) (root : ℕ) (there : root < length p)
    (parts : (n : ℕ) → root ≤ n → n < end p root → tell.has_parts p f n ≡ true) (linked : (n : ℕ) → n < length p → is_linked p n ≡ true) (v : ℕ) (scope : HasScope p f root v) where
  abbrev sv : Sets Bool
  sv = only v

  abbrev d : ℕ
  d = parent p v

  abbrev b : ℕ
  b = block p v

  in_d : IsChild p d v
  in_d = (scope.below, refl)

  in_b : IsChild p b d
  in_b = (scope.inside, refl)

  v_ends : end p v ≤ end p d
  v_ends = (child_ends p tree d v in_d).1

  d_ends : end p d ≤ end p b
  d_ends = (child_ends p tree b d in_b).1

  in_rows : (n : ℕ) → n < end p b → n < length p
  in_rows n lt = let most = tree.last root there in let high = scope.high in omega arith

  -- what stands inside a row of the scope stands in it
  closed : (q : ℕ) → end p v ≤ q → q < end p b → end p q ≤ end p b
  closed q low high = let after = tree.nested v in let below = scope.below in let inside = scope.inside in tree.apart b q (omega arith) high

  module _ (a : ℕ → Seen Bool) (kept : IsKept p v a) where
    abbrev m : ℕ → Met Bool
    m = tell.met_at sv p f (tell.guarded_in p root) a

    last_true : (n : ℕ) → end p v ≤ n → n < end p b → tell.behind_last f a n ≡ true
    last_true n low high = by (last_part f n) refl
      where
        by : (o : Option ℕ) → last_part f n ≡ o → tell.behind_part f a o n ≡ true
        by None e = (kept.rows n low high).before
        by (Some c) e = let last = last_tells p tree f lasts n c e in let after = last.child.0 in let inside = (child_ends p tree n c last.child).0 in let most = closed n low high in (kept.rows c (omega arith) (omega arith)).done

    arrives_true : (n : ℕ) → end p v ≤ n → n < end p b → tell.arrives sv p f (tell.guarded_in p root) a n ≡ true
    arrives_true n low high = passed_true v p f (tell.guarded_in p root) a n (tell.guarded_in p root) _ (last_true n low high)

    -- ---- before a row of the scope that stands right in another

    module _ (q n : ℕ) (low : end p v ≤ q) (child : IsChild p q n) (high : n < end p b) where
      q_high : q < end p b
      q_high = let after = child.0 in omega arith

      start : (a q).before ≡ true
      start = (kept.rows q low q_high).before

      one : IsSame a full (first q)
      one = let after = child.0 in kept.rows (q + 1) (omega arith) (omega arith)

      sibling : tell.behind sv p f a m n ≡ true
      sibling = if_so (nat_lt (parent p n) (previous p n))
          (λ t. let lt = ltb-true _ _ t in let up = child.1 in let after = child.0 in let less = tree.before n (in_rows n high) (omega arith) in (kept.rows (previous p n) (omega arith) (omega arith)).done)
          (λ no. subst (λ q. (a q).before ≡ true) (sym child.1) start)

      continued : (m q).continued ≡ true
      continued = let most = closed q low q_high in both_true_of v p f (tell.guarded_in p root) _ _ (end p q - (q + 1)) (λ i small e. arrives_true (q + 1 + i) (omega arith) (omega arith))

      module _ (has_first has_condition : Bool) (is_for : label p q ≡ is.For has_first has_condition) where
        begins : (h : Bool) → tell.for_start sv p f a m q h ≡ true
        begins true = one.done
        begins false = start

        turns : (h k : Bool) → label p q ≡ is.For h k → tell.for_turn sv p f a m q h k ≡ true
        turns h false e = begins h
        turns h true e = let low_root = scope.low in let most = scope.high in let nested = tree.nested v in let below = scope.below in let body = for_ends p tree f q (in_rows q q_high) h true e (parts q (omega arith) (omega arith)) in let within = in_body body.0 body.1 in
            let le = body.2 in let up = tree.nested (tell.for_test p q h) in (kept.rows (tell.for_test p q h) (test_low h) (omega arith)).yes
          where
            in_body : (c : ℕ) → last_part f q ≡ Some c → c < end p b
            in_body c e = let inside = (child_ends p tree q c (last_tells p tree f lasts q c e).child).0 in let most = closed q low q_high in omega arith

            test_low : (h : Bool) → end p v ≤ tell.for_test p q h
            test_low true = let up = tree.nested (q + 1) in omega arith
            test_low false = omega arith

        for_true : tell.in_for sv p f a m q has_first has_condition n ≡ true
        for_true = if_true (tell.is_row (last_part f q) n) (turns has_first has_condition is_for)
            (if_true (has_first && nat_eq n (first q)) start
            (if_true (has_condition && nat_eq n (tell.for_test p q has_first)) (begins has_first)
            (if_true (nat_eq n (tell.for_update p q has_first has_condition)) (and_true continued (last_true q low q_high)) sibling)))

      test_true : tell.by_test sv p f a m q n ≡ true
      test_true = if_true (nat_eq n (first q)) start (if_true (nat_eq n (second p q)) one.yes one.no)

      in_true : (l : Label) → label p q ≡ l → tell.before_in sv p f a m l q n ≡ true
      in_true is.If e = test_true
      in_true is.While e = test_true
      in_true is.Conditional e = test_true
      in_true (is.Binary y.AndAnd) e = test_true
      in_true (is.Binary y.OrOr) e = if_true (nat_eq n (first q)) start one.no
      in_true is.Do e = if_true (nat_eq n (first q)) start (and_true continued one.done)
      in_true (is.For has_first has_condition) e = for_true has_first has_condition e
      in_true is.Switch e = if_true (nat_eq n (first q)) start (and_true one.done sibling)
      in_true (is.Try has_finally) e = start
      in_true _ e = sibling

    -- ---- before a row that stands right in the declaration, or beside it

    sibling_of : (q y n : ℕ) → IsChild p q y → IsChild p q n → y < n → n < length p → ((x : ℕ) → IsChild p q x → y ≤ x → x < n → (a x).done ≡ true) → tell.behind sv p f a m n ≡ true
    sibling_of q y n child other lt in_p each = by (nat_lt (parent p n) (previous p n)) refl (linked n in_p)
      where
        by : (t : Bool) → nat_lt (parent p n) (previous p n) ≡ t
            → (if t then (nat_eq (end p (previous p n)) n && nat_eq (parent p (previous p n)) (parent p n)) else not (nat_lt (parent p n + 1) n)) ≡ true
            → (if t then (a (previous p n)).done else (a (parent p n)).before) ≡ true
        by true t e =
            let is = both_true _ _ e in
            let ends : end p (previous p n) ≡ n = (Decides-eqb _ _).0 is.0 in
            let up : parent p (previous p n) ≡ parent p n = (Decides-eqb _ _).0 is.1 in
            let low = ltb-true (parent p n) (previous p n) t in
            let over = other.1 in
            let nested = tree.nested (previous p n) in
            let same : IsChild p q (previous p n) = (omega arith, up ∙ over) in
            each (previous p n) same (⊎_elim (λ less. let next = next_child p tree q (previous p n) y same less child in absurd (omega arith)) (λ le. le) (cases_lt (previous p n) y)) (omega arith)
        by false t e = let le = ltb-false (parent p n + 1) n (not_true _ e) in let over = other.1 in let after = child.0 in absurd (omega arith)

    -- behind the declarator, or a later one
    later_done : (x : ℕ) → IsChild p d x → v ≤ x → x < end p b → (a x).done ≡ true
    later_done x child le lt = ⊎_elim
        (λ same. subst (λ x. (a x).done ≡ true) same kept.local)
        (λ apart. let next = next_child p tree d v x in_d (omega arith) child in (kept.rows x next lt).done)
        (cases_eq v x)

    -- behind the declaration, or a later statement
    after_done : (x : ℕ) → IsChild p b x → d ≤ x → x < end p b → (a x).done ≡ true
    after_done x child le lt = ⊎_elim
        (λ same. subst (λ x. (a x).done ≡ true) same kept.declared)
        (λ apart. let next = next_child p tree b d x in_b (omega arith) child in let most = v_ends in (kept.rows x (omega arith) lt).done)
        (cases_eq d x)

    module _ (n : ℕ) (low : end p v ≤ n) (high : n < end p b) where
      v_less : v < n
      v_less = let nested = tree.nested v in omega arith

      beside : IsChild p d n → tell.behind sv p f a m n ≡ true
      beside child = sibling_of d v n in_d child v_less (in_rows n high) (λ x is_child le lt. later_done x is_child le (omega arith))

      -- a declarator behind it
      in_declaration : IsChild p d n → (l : Label) → declares l ≡ true → tell.before_in sv p f a m l d n ≡ true
      in_declaration child is.Locals e = beside child
      in_declaration child is.ForLocals e = beside child
      in_declaration child _ e = absurd (false≢true e)

      module _ (child : IsChild p b n) where
        d_less : d < n
        d_less = let below = scope.below in let less = v_less in omega arith

        after : tell.behind sv p f a m n ≡ true
        after = sibling_of b d n in_b child d_less (in_rows n high) (λ x is_child le lt. after_done x is_child le (omega arith))

        module _ (has_condition : Bool) (is_for : label p b ≡ is.For true has_condition) (at : d ≡ first b) where
          d_high : d < end p b
          d_high = let less = d_less in omega arith

          b_in : b < length p
          b_in = let inside = scope.inside in let all = in_rows d d_high in omega arith

          root_le : root ≤ b
          root_le = let within = scope.high in let inside = d_high in tree.inner root d scope.low (omega arith)

          header_done : (a (first b)).done ≡ true
          header_done = subst (λ x. (a x).done ≡ true) at kept.declared

          second_low : end p v ≤ second p b
          second_low = let up = v_ends in let same = ap (end p) at in omega arith

          -- its body stands behind its updates
          body : (c : ℕ) × (last_part f b ≡ Some c) × (tell.for_update p b true has_condition ≤ c)
          body = let le = root_le in let inside = scope.inside in let less = d_high in let most = scope.high in for_ends p tree f b b_in true has_condition is_for (parts b le (omega arith))

          last_child : IsLastChild p b body.0
          last_child = last_tells p tree f lasts b body.0 body.1

          body_high : body.0 < end p b
          body_high = (child_ends p tree b body.0 last_child.child).0

          body_low : end p v ≤ body.0
          body_low = let le = body.2 in let low_second = second_low in by has_condition le
            where
              by : (k : Bool) → tell.for_update p b true k ≤ body.0 → end p v ≤ body.0
              by true le = let up = tree.nested (second p b) in let low_second = second_low in omega arith
              by false le = let low_second = second_low in omega arith

          body_done : tell.behind_last f a b ≡ true
          body_done = ap (λ o. tell.behind_part f a o b) body.1 ∙ (kept.rows body.0 body_low body_high).done

          -- each continue stands in it
          continued_so : (m b).continued ≡ true
          continued_so = both_true_of v p f (tell.guarded_in p root) _ _ (end p b - (b + 1)) (λ i small e. let j = b + 1 + i in let h = both_true _ _ e in
              let inside = both_true (not (nat_lt j body.0)) (nat_lt j (end p b)) (sym (ap (λ l. tell.is_in_body l p f b j) is_for ∙ ap (λ o. tell.is_from o p b j) body.1) ∙ h.1) in
              let from = ltb-false j body.0 (not_true _ inside.0) in let low_body = body_low in arrives_true j (omega arith) (omega arith))

          turns_so : (k : Bool) → k ≡ has_condition → tell.for_turn sv p f a m b true k ≡ true
          turns_so false e = header_done
          turns_so true e = let le : tell.for_update p b true true ≤ body.0 = subst (λ k. tell.for_update p b true k ≤ body.0) (sym e) body.2 in let up = tree.nested (second p b) in let most = body_high in
              (kept.rows (second p b) second_low (omega arith)).yes

          in_header : tell.in_for sv p f a m b true has_condition n ≡ true
          in_header = if_true (tell.is_row (last_part f b) n) (turns_so has_condition refl)
              (if_so (true && nat_eq n (first b)) (λ t. let same = (Decides-eqb n (first b)).0 t in let less = d_less in absurd (omega arith)) (λ no.
              (if_true (has_condition && nat_eq n (tell.for_test p b true)) header_done
              (if_true (nat_eq n (tell.for_update p b true has_condition)) (and_true continued_so body_done) after))))

        in_block : (l : Label) → label p b ≡ l → holds_in l b d ≡ true → tell.before_in sv p f a m l b n ≡ true
        in_block is.Block e h = after
        in_block is.Group e h = after
        in_block (is.For true has_condition) e h = in_header has_condition e ((Decides-eqb d (first b)).0 h)
        in_block (is.For false has_condition) e h = absurd (false≢true h)
        in_block _ e h = absurd (false≢true h)

      -- what a row of the scope stands in: a row of the scope, the declaration, or what that stands in
      over_low : b ≤ parent p n
      over_low = let inside = scope.inside in let below = scope.below in let less = v_less in tree.inner b n (omega arith) high

      held : n < end p (parent p n)
      held = let less = v_less in tree.held n (in_rows n high) (omega arith)

      over_high : parent p n < n
      over_high = let less = v_less in tree.up n (in_rows n high) (omega arith)

      apart_low : v ≤ parent p n → end p v ≤ parent p n
      apart_low le = let inside = held in ⊎_elim
          (λ lt. ⊎_elim
          (λ same. let ends = ap (end p) same in absurd (omega arith))
          (λ apart. let most = tree.apart v (parent p n) (omega arith) lt in absurd (omega arith))
          (cases_eq v (parent p n)))
          (λ le. le)
          (cases_lt (parent p n) (end p v))

      in_two : parent p n < v → (IsChild p d n → tell.before_in sv p f a m (label p (parent p n)) (parent p n) n ≡ true) → (IsChild p b n → tell.before_in sv p f a m (label p (parent p n)) (parent p n) n ≡ true)
          → tell.before_in sv p f a m (label p (parent p n)) (parent p n) n ≡ true
      in_two lt first_so second_so = let inside = held in let less = v_less in let most = over_high in let least = over_low in ⊎_elim
          (λ same. first_so (omega arith, same))
          (λ apart. ⊎_elim
          (λ same. second_so (omega arith, same))
          (λ other. ⊎_elim
          (λ before_d. let up = tree.inner (parent p n) d before_d (d_inside before_d) in absurd (omega arith))
          (λ after_d. let up = tree.inner (parent p n) v lt (omega arith) in absurd (omega arith))
          (cases_lt (parent p n) d))
          (cases_eq (parent p n) b))
          (cases_eq (parent p n) d)
        where
          d_inside : parent p n < d → d < end p (parent p n)
          d_inside before_d = let below = scope.below in let less = v_less in let inside = held in omega arith

      before_in_so : tell.before_in sv p f a m (label p (parent p n)) (parent p n) n ≡ true
      before_in_so = ⊎_elim
          (λ lt. in_two lt
          (λ child. subst (λ q. tell.before_in sv p f a m (label p q) q n ≡ true) (sym child.1) (in_declaration child (label p d) scope.declaration))
          (λ child. subst (λ q. tell.before_in sv p f a m (label p q) q n ≡ true) (sym child.1) (in_block child (label p b) refl scope.holds)))
          (λ le. in_true (parent p n) n (apart_low le) (over_high, refl) high (label p (parent p n)) refl)
          (cases_lt (parent p n) v)

      before_so : tell.before_at sv p f a m n ≡ true
      before_so = let less = v_less in declared_true v p f (tell.guarded_in p root) (label p n) n _ (eq_false n v (λ same. absurd (omega arith))) before_in_so

      gain_so : tell.gain_at sv p f a m n ≡ gained
      gain_so = let low_root = scope.low in let below = scope.below in let less = v_less in let most = scope.high in let within = closed n low high in
          behind_same sv p tree f lasts root there a full n (in_rows n high) (λ k from to. kept.rows k (omega arith) (omega arith)) (kept.rows n low high).before (parts n (omega arith) (omega arith))
          ∙ all_gained v p f (tell.guarded_in p root) n

      next_row : IsSame (next_round sv p f root false a) full n
      next_row = let low_root = scope.low in let below = scope.below in let less = v_less in record {
        before = ap (λ t. if t then false else tell.before_at sv p f a m n) (eq_false n root (λ same. absurd (omega arith))) ∙ before_so;
        done = ap (λ (g : Gain Bool). g.done) gain_so;
        yes = ap (λ (g : Gain Bool). g.yes) gain_so;
        no = ap (λ (g : Gain Bool). g.no) gain_so;
      }

    -- ---- behind the declarator, and behind the declaration

    unknown : (n : ℕ) (g : Gain Bool) → (fact f n).truth ≡ None → (tell.known sv p f a m (fact f n).truth n g).done ≡ g.done
    unknown n g e = ap (λ o. (tell.known sv p f a m o n g).done) e

    local_gain : (l : Label) (n : ℕ) → is_local l ≡ true → (tell.gain_in sv p f a m l n).done ≡ tell.with_assigned sv (fact f n).assigned (tell.behind_last f a n)
    local_gain (is.Local is_final dims) n e = refl
    local_gain _ n e = absurd (false≢true e)

    declared_gain : (l : Label) (n : ℕ) → declares l ≡ true → (tell.gain_in sv p f a m l n).done ≡ tell.with_assigned sv (fact f n).assigned (tell.behind_last f a n)
    declared_gain is.Locals n e = refl
    declared_gain is.ForLocals n e = refl
    declared_gain _ n e = absurd (false≢true e)

    local_done : (tell.gain_at sv p f a m v).done ≡ true
    local_done = unknown v (tell.gain_in sv p f a m (label p v) v) scope.truth ∙ local_gain (label p v) v scope.local ∙ ap (λ o. tell.with_assigned sv o (tell.behind_last f a v)) scope.assigned
        ∙ true_or (tell.behind_last f a v) (eq_true v v refl)

    last_declared : tell.behind_last f a d ≡ true
    last_declared = by (last_part f d) refl
      where
        some : d + 1 < end p d
        some = let nested = tree.nested v in let below = scope.below in let up = v_ends in omega arith

        by : (o : Option ℕ) → last_part f d ≡ o → tell.behind_part f a o d ≡ true
        by None e = absurd (false≢true (sym (ap not (lt-ltb (d + 1) (end p d) some)) ∙ sym (ap (λ o. tell.is_last o p d) e) ∙ lasts d))
        by (Some c) e = let last = last_tells p tree f lasts d c e in let inside = (child_ends p tree d c last.child).0 in let up = d_ends in later_done c last.child (last.last v in_d) (omega arith)

    declared_done : (tell.gain_at sv p f a m d).done ≡ true
    declared_done = unknown d (tell.gain_in sv p f a m (label p d) d) scope.other_truth ∙ declared_gain (label p d) d scope.declaration ∙ assigned_full v p f (tell.guarded_in p root) (fact f d).assigned last_declared

    next_kept : IsKept p v (next_round sv p f root false a)
    next_kept = record { rows = next_row; local = local_done; declared = declared_done }

  -- ---- from a table on in which all is assigned

  abbrev begun : ℕ → Seen Bool
  begun n = record { before = if nat_eq n root then false else true; done = true; yes = true; no = true }

  begun_kept : IsKept p v begun
  begun_kept = record {
    rows = λ n low high. let low_root = scope.low in let below = scope.below in let nested = tree.nested v in record {
      before = ap (λ t. if t then false else true) (eq_false n root (λ same. absurd (omega arith)));
      done = refl;
      yes = refl;
      no = refl;
    };
    local = refl;
    declared = refl;
  }

  pub assigned_in_scope : (a : ℕ → Seen Bool) → AreAssigned sv p f root false a → (n : ℕ) → end p v ≤ n → n < end p b → (a n).before ≡ true
  assigned_in_scope a are n low high =
      let found = solution_holds sv p tree f lasts root there parts false begun (IsKept p v) (ap (λ t. if t then false else true) (eq_true root root refl)) begun_kept next_kept a are in
      let low_root = scope.low in let below = scope.below in let nested = tree.nested v in let most = scope.high in
      (found.2 n (omega arith) (omega arith)).before ∙ (found.1.rows n low high).before

-- ---- in code

module _ (p : Rows) (f : Facts) (linked : are_linked p ≡ true) (whole : IsWhole p f) (root v n : ℕ) (read : (fact f n).read ≡ Some v) (is_in : IsInScope p f root v n) where
  scope : HasScope p f root v
  scope = is_in.scope

  tree : IsTree p
  tree = whole.tree

  each_last : (k : ℕ) → tell.has_last p f k ≡ true
  each_last = has_each_last p f whole.lasts

  v_in : v < length p
  v_in = child_below p tree (parent p v) v (scope.below, refl)

  there : root < length p
  there = let low = scope.low in let below = scope.below in let lt = v_in in omega arith

  parts : (k : ℕ) → root ≤ k → k < end p root → tell.has_parts p f k ≡ true
  parts k low high = let most = tree.last root there in each_below (length p) (tell.has_parts p f) whole.parts k (omega arith)

  table : AreAssigned (only v) p f root false (tell.solved (only v) p f root false)
  table = each_member v p f root false tree there each_last parts

  pub judged_in_scope : IsJudged p f root n true
  judged_in_scope = let low_root = scope.low in let below = scope.below in let nested = tree.nested v in let low = is_in.low in let high = is_in.high in let most = scope.high in record {
    variable = v;
    read = read;
    table = tell.solved (only v) p f root false;
    assigned = table;
    parts = parts;
    low = omega arith;
    high = omega arith;
    is = assigned_in_scope p tree f each_last root there parts (each_below (length p) (is_linked p) linked) v scope (tell.solved (only v) p f root false) table n low high;
  }

-- one row more
pub noted_more : (c : Reads) → c.are_linked ≡ are_linked c.rows.now → (n : ℕ) (old new : Verdicts) → AreJudged c.rows.now c.facts.now c.members.now old → new ≡ noted_at c n old → AreJudged c.rows.now c.facts.now c.members.now new
noted_more c linked n old new are is = subst (AreJudged c.rows.now c.facts.now c.members.now) (sym is) (by (fact c.facts.now n).read refl)
  where
    choose : (v : ℕ) → (fact c.facts.now n).read ≡ Some v → (t : Bool) → is_sure c v n ≡ t → AreJudged c.rows.now c.facts.now c.members.now (if t then slice_set old n (Some true) else old)
    choose v read true sure = let parts = both_true _ _ sure in record {
      each = λ whole. verdict_more (λ k b. IsJudged c.rows.now c.facts.now (member_in c.members.now k) k b) old n true (are.each whole)
          (judged_in_scope c.rows.now c.facts.now (sym linked ∙ parts.0) whole (member_in c.members.now n) v n read (scope_tells c.rows.now c.facts.now (member_in c.members.now n) v n parts.1));
    }
    choose v read false sure = are

    by : (o : Option ℕ) → (fact c.facts.now n).read ≡ o → AreJudged c.rows.now c.facts.now c.members.now (noted_by c o n old)
    by None read = are
    by (Some v) read = choose v read (is_sure c v n) refl
