-- Where two tables follow the equations round by round, from the same on, they have the same once each row has waited for those before it. So the equations of a member have one solution.
use Rattle.std.proofs.Common.{◌≡◌, refl, sym, ◌∙◌, ap, ap₂, subst, ⊎_elim, arith, ℕ, zero, suc, ◌+◌, ◌-◌, ◌*◌, ◌<◌, ◌≤◌, Bool, true, false, if◌then◌else◌, length, Some, nat_eq}
use Rattle.std.proofs.lemmas.Bool.{cases_eq, cases_lt, cases_Bool}
use Rattle.jr_tree.specs.declared.label.Label.TheVariants as is
use Rattle.jr_tree.specs.Rows.{Rows, label, end}
use Rattle.jr_tree.specs.Tree.{IsTree}
use Rattle.jr_plain.proofs.Children.{IsChild}
use Rattle.jr_assign.specs.Changes.{Facts}
use Rattle.jr_assign.specs.Sets.{Sets, only}
use Rattle.jr_assign.specs.Assigned as tell
use Rattle.jr_assign.specs.Assigned.{Seen, Gain, last_part, AreAssigned, followed, solved}
use Rattle.jr_assign.proofs.Inside.{eq_true, eq_false, IsStart, child_ends, last_tells, first_starts, next_starts, ends_before}
use Rattle.jr_assign.proofs.Once.{IsSame, AreSame, is_for, for_tells, behind_same, in_turn, in_header, at_body, in_updates, low_update, update_starts, for_ends}

-- what the equations say of a table
abbrev pub next_round : {A : Type 0} → Sets A → Rows → Facts → ℕ → A → (ℕ → Seen A) → ℕ → Seen A
next_round s p f root start a n = let m = tell.met_at s p f (tell.guarded_in p root) a in let gain = tell.gain_at s p f a m n in record {
  before = if nat_eq n root then start else tell.before_at s p f a m n;
  done = gain.done;
  yes = gain.yes;
  no = gain.no;
}

abbrev pub rounds_from : {A : Type 0} → Sets A → Rows → Facts → ℕ → A → (ℕ → Seen A) → ℕ → ℕ → Seen A
rounds_from s p f root start first zero n = first n
rounds_from s p f root start first (suc k) n = next_round s p f root start (rounds_from s p f root start first k) n

module _ {A : Type 0} (s : Sets A) (p : Rows) (tree : IsTree p) (f : Facts) (lasts : (n : ℕ) → tell.has_last p f n ≡ true) (root : ℕ) (there : root < length p)
    (parts : (n : ℕ) → root ≤ n → n < end p root → tell.has_parts p f n ≡ true) where
  abbrev met : (ℕ → Seen A) → ℕ → tell.Met A
  met a = tell.met_at s p f (tell.guarded_in p root) a

  abbrev before_of : (ℕ → Seen A) → ℕ → A
  before_of a n = tell.before_at s p f a (met a) n

  abbrev gain_of : (ℕ → Seen A) → ℕ → Gain A
  gain_of a n = tell.gain_at s p f a (met a) n

  -- tables, each what the equations say of the one before
  pub record Follows (a : ℕ → ℕ → Seen A) : Type 0 where
    pub before : (k n : ℕ) → root < n → n < end p root → (a (suc k) n).before ≡ before_of (a k) n
    pub done : (k n : ℕ) → root ≤ n → n < end p root → (a (suc k) n).done ≡ (gain_of (a k) n).done
    pub yes : (k n : ℕ) → root ≤ n → n < end p root → (a (suc k) n).yes ≡ (gain_of (a k) n).yes
    pub no : (k n : ℕ) → root ≤ n → n < end p root → (a (suc k) n).no ≡ (gain_of (a k) n).no

  module _ (a b : ℕ → ℕ → Seen A) (ha : Follows a) (hb : Follows b) where
    -- from the round r on
    abbrev From : ℕ → ℕ → ℕ → Type 0
    From r low high = (k : ℕ) → r ≤ k → AreSame (a k) (b k) low high

    abbrev BeforeFrom : ℕ → ℕ → Type 0
    BeforeFrom r n = (k : ℕ) → r ≤ k → (a k n).before ≡ (b k n).before

    next_before : (r c : ℕ) → root < c → c < end p root → ((k : ℕ) → r ≤ k → before_of (a k) c ≡ before_of (b k) c) → BeforeFrom (r + 1) c
    next_before r c low high h zero le = absurd (omega arith)
    next_before r c low high h (suc k) le = ha.before k c low high ∙ h k (omega arith) ∙ sym (hb.before k c low high)

    ends_within : (n : ℕ) → root ≤ n → n < end p root → end p n ≤ end p root
    ends_within n low high = ⊎_elim (λ same. subst (λ r. end p n ≤ end p r) (sym same) (omega arith)) (λ apart. tree.apart root n (omega arith) high) (cases_eq root n)

    in_rows : (n : ℕ) → n < end p root → n < length p
    in_rows n high = let most = tree.last root there in omega arith

    -- ---- from child to child

    abbrev StepsIn : ℕ → ℕ → ℕ → ℕ → Type 0
    StepsIn n from to r = (c : ℕ) → IsChild p n c → from ≤ c → c < to → (k : ℕ) → r ≤ k → AreSame (a k) (b k) from c → before_of (a k) c ≡ before_of (b k) c

    abbrev Each : ℕ → Type 0
    Each n = (c q : ℕ) → IsChild p n c → BeforeFrom q c → From (q + 2 * (end p c - c) - 1) c (end p c)

    module _ (n : ℕ) (low : root ≤ n) (high : n < end p root) (each : Each n) where
      one : (c r to : ℕ) → IsChild p n c → c < to → StepsIn n c to r → From (r + 2 * (end p c - c)) c (end p c)
      one c r to child lt step k le = let after = child.0 in let inside = (child_ends p tree n c child).0 in let most = ends_within n low high in let nested = tree.nested c in
          each c (r + 1) child (next_before r c (omega arith) (omega arith) (λ k le. step c child (omega arith) lt k le (λ m from to. absurd (omega arith)))) k (omega arith)

      pub run : (room from to r : ℕ) → to ≤ from + room → to ≤ end p n → IsStart p n from → IsStart p n to → StepsIn n from to r → From (r + 2 * (to - from)) from to
      run zero from to r few within starts ends step = λ k le m low high. absurd (omega arith)
      run (suc room) from to r few within starts ends step = ⊎_elim
          (λ lt. let child = starts (omega arith) in let after = child.0 in let nested = tree.nested from in let most = ends_before p tree n from to within ends child lt in
          let first = one from r to child lt step in
          let rest = run room (end p from) to (r + 2 * (end p from - from)) (omega arith) within (next_starts p tree n from (in_rows n high) child) ends
          (λ c child low lt k le same. step c child (omega arith) lt k (omega arith) (λ m from_m to_m. ⊎_elim (λ less. first k (omega arith) m from_m less) (λ past. same m past to_m) (cases_lt m (end p from)))) in
          λ k le m from_m to_m. ⊎_elim (λ less. first k (omega arith) m from_m less) (λ past. rest k (omega arith) m past to_m) (cases_lt m (end p from)))
          (λ past. λ k le m low high. absurd (omega arith))
          (cases_lt from to)

      module _ (r : ℕ) (e : BeforeFrom r n) where
        plain : is_for (label p n) ≡ false → From (r + 2 * (end p n - (n + 1))) (n + 1) (end p n)
        plain no_for = run (end p n) (n + 1) (end p n) r (omega arith) (omega arith) (first_starts p tree n (in_rows n high)) (λ inside. absurd (omega arith))
            (λ c child from to k le so_far. in_turn s p tree f lasts root there (a k) (b k) n (in_rows n high) (e k le) no_for c child so_far)

        module _ (has_first has_condition : Bool) (is_for_so : label p n ≡ is.For has_first has_condition) (last : ℕ) (is_last : last_part f n ≡ Some last) (ends : tell.for_update p n has_first has_condition ≤ last) where
          abbrev update : ℕ
          update = tell.for_update p n has_first has_condition

          body : IsChild p n last
          body = (last_tells p tree f lasts n last is_last).child

          body_in : last < end p n
          body_in = (child_ends p tree n last body).0

          low_up : n + 1 ≤ update
          low_up = low_update p tree f n (in_rows n high) has_first has_condition

          up_starts : IsStart p n update
          up_starts = update_starts p tree f n (in_rows n high) has_first has_condition last body ends

          header : From (r + 2 * (update - (n + 1))) (n + 1) update
          header = let inside = body_in in let low_so = low_up in run (end p n) (n + 1) update r (omega arith) (omega arith) (first_starts p tree n (in_rows n high)) up_starts
              (λ c child from to k le so_far. in_header s p tree f lasts root there (a k) (b k) n (in_rows n high) (e k le) has_first has_condition is_for_so last is_last ends c child to so_far)

          abbrev r_body : ℕ
          r_body = r + 2 * (update - (n + 1))

          body_rows : From (r_body + 2 * (end p n - last)) last (end p n)
          body_rows = let inside = body_in in run (end p n) last (end p n) r_body (omega arith) (omega arith) (λ inside. body) (λ inside. absurd (omega arith))
              (λ c child from to k le so_far. let most = (last_tells p tree f lasts n last is_last).last c child in let at : last ≡ c = omega arith in
              subst (λ c. before_of (a k) c ≡ before_of (b k) c) at
              (at_body s p tree f lasts root there (a k) (b k) n (in_rows n high) (e k (omega arith)) has_first has_condition is_for_so last is_last ends (header k le)))

          abbrev r_updates : ℕ
          r_updates = r_body + 2 * (end p n - last)

          updates : From (r_updates + 2 * (last - update)) update last
          updates = let inside = body_in in let low_so = low_up in run (end p n) update last r_updates (omega arith) (omega arith) up_starts (λ inside. body)
              (λ c child from to k le so_far. in_updates s p tree f lasts root there (a k) (b k) n (in_rows n high) (e k (omega arith)) has_first has_condition is_for_so last is_last ends c child to
              (λ m from_m to_m. ⊎_elim (λ less. header k (omega arith) m from_m less) (λ past. so_far m past to_m) (cases_lt m update)) (body_rows k le))

          for_rows : From (r + 2 * (end p n - (n + 1))) (n + 1) (end p n)
          for_rows k le m from to = let inside = body_in in let low_so = low_up in ⊎_elim
              (λ less. ⊎_elim (λ in_header. header k (omega arith) m from in_header) (λ past. updates k (omega arith) m past less) (cases_lt m update))
              (λ past. body_rows k (omega arith) m past to)
              (cases_lt m last)

        inside : From (r + 2 * (end p n - (n + 1))) (n + 1) (end p n)
        inside = ⊎_elim
            (λ t. let so = for_tells (label p n) t in let last = for_ends p tree f n (in_rows n high) so.0 so.1 so.2 (parts n low high) in for_rows so.0 so.1 so.2 last.0 last.1 last.2)
            plain
            (cases_Bool (is_for (label p n)))

        -- and behind it
        own : (k : ℕ) → r + 2 * (end p n - n) - 1 ≤ k → IsSame (a k) (b k) n
        own zero le = let nested = tree.nested n in absurd (omega arith)
        own (suc k) le = let nested = tree.nested n in
            let same = behind_same s p tree f lasts root there (a k) (b k) n (in_rows n high) (inside k (omega arith)) (e k (omega arith)) (parts n low high) in record {
              before = e (suc k) (omega arith);
              done = ha.done k n low high ∙ ap (λ (g : Gain A). g.done) same ∙ sym (hb.done k n low high);
              yes = ha.yes k n low high ∙ ap (λ (g : Gain A). g.yes) same ∙ sym (hb.yes k n low high);
              no = ha.no k n low high ∙ ap (λ (g : Gain A). g.no) same ∙ sym (hb.no k n low high);
            }

        pub whole_row : From (r + 2 * (end p n - n) - 1) n (end p n)
        whole_row k le m from to = let nested = tree.nested n in ⊎_elim (λ at. subst (IsSame (a k) (b k)) at (own k le)) (λ apart. inside k (omega arith) m (omega arith) to) (cases_eq n m)

    whole : (room n r : ℕ) → length p ≤ n + room → root ≤ n → n < end p root → BeforeFrom r n → From (r + 2 * (end p n - n) - 1) n (end p n)
    whole zero n r far low high e = let in_p = in_rows n high in absurd (omega arith)
    whole (suc room) n r far low high e = whole_row n low high
        (λ c q child. let after = child.0 in let inside = (child_ends p tree n c child).0 in let most = ends_within n low high in whole room c q (omega arith) (omega arith) (omega arith)) r e

    pub rows_same : BeforeFrom 0 root → (k : ℕ) → 2 * (end p root - root) - 1 ≤ k → AreSame (a k) (b k) root (end p root)
    rows_same e k le = let nested = tree.nested root in whole (length p) root 0 (omega arith) (omega arith) (omega arith) e k (omega arith)

  -- ---- a table that has what the equations say of itself

  always : (start : A) (a : ℕ → Seen A) → AreAssigned s p f root start a → Follows (λ k. a)
  always start a h = record { before = λ k. h.before; done = λ k. h.done; yes = λ k. h.yes; no = λ k. h.no }

  pub once : (start : A) (a b : ℕ → Seen A) → AreAssigned s p f root start a → AreAssigned s p f root start b → AreSame a b root (end p root)
  once start a b ha hb = rows_same (λ k. a) (λ k. b) (always start a ha) (always start b hb) (λ k le. ha.begins ∙ sym hb.begins) (2 * (end p root - root)) (omega arith)

  -- ---- the plain function

  module _ (start : A) where
    abbrev round : ℕ → ℕ → Seen A
    round = followed s p f root start

    begins : (k : ℕ) → (round k root).before ≡ start
    begins zero = refl
    begins (suc k) = ap (λ b. if b then start else before_of (round k) root) (eq_true root root refl)

    later : (k n : ℕ) → root < n → (round (suc k) n).before ≡ before_of (round k) n
    later k n low = ap (λ b. if b then start else before_of (round k) n) (eq_false n root (λ e. absurd (omega arith)))

    pub solves : AreAssigned s p f root start (solved s p f root start)
    solves = record {
      begins = begins (2 * (end p root - root));
      before = λ n low high. (same n (omega arith) high).before ∙ later (2 * (end p root - root)) n low;
      done = λ n low high. (same n low high).done;
      yes = λ n low high. (same n low high).yes;
      no = λ n low high. (same n low high).no;
    }
      where
        same : AreSame (round (2 * (end p root - root))) (round (suc (2 * (end p root - root)))) root (end p root)
        same = rows_same round (λ k. round (suc k))
            (record { before = λ k n low high. later k n low; done = λ k n low high. refl; yes = λ k n low high. refl; no = λ k n low high. refl })
            (record { before = λ k n low high. later (suc k) n low; done = λ k n low high. refl; yes = λ k n low high. refl; no = λ k n low high. refl })
            (λ k le. begins k ∙ sym (begins (suc k))) (2 * (end p root - root)) (omega arith)

  -- ---- what a table has, and what the equations say of one that has it, their solution has

  module _ (start : A) (first : ℕ → Seen A) (P : (ℕ → Seen A) → Type 0) (begun : (first root).before ≡ start) (holds : P first) (keeps : (a : ℕ → Seen A) → P a → P (next_round s p f root start a)) where
    abbrev from_first : ℕ → ℕ → Seen A
    from_first = rounds_from s p f root start first

    each_holds : (k : ℕ) → P (from_first k)
    each_holds zero = holds
    each_holds (suc k) = keeps (from_first k) (each_holds k)

    begun_so : (k : ℕ) → (from_first k root).before ≡ start
    begun_so zero = begun
    begun_so (suc k) = ap (λ b. if b then start else before_of (from_first k) root) (eq_true root root refl)

    later_so : (k n : ℕ) → root < n → (from_first (suc k) n).before ≡ before_of (from_first k) n
    later_so k n low = ap (λ b. if b then start else before_of (from_first k) n) (eq_false n root (λ e. absurd (omega arith)))

    pub solution_holds : (a : ℕ → Seen A) → AreAssigned s p f root start a → (b : ℕ → Seen A) × P b × AreSame a b root (end p root)
    solution_holds a h = (
      from_first (2 * (end p root - root)),
      each_holds (2 * (end p root - root)),
      rows_same (λ k. a) from_first (always start a h)
          (record { before = λ k n low high. later_so k n low; done = λ k n low high. refl; yes = λ k n low high. refl; no = λ k n low high. refl })
          (λ k le. h.begins ∙ sym (begun_so k)) (2 * (end p root - root)) (omega arith),
    )

pub seen_same : {A : Type 0} (x y : Seen A) → x.before ≡ y.before → x.done ≡ y.done → x.yes ≡ y.yes → x.no ≡ y.no → x ≡ y
seen_same {A} x y e g h k = ap₂ (λ (before : A) (done : A). record { before = before; done = done; yes = x.yes; no = x.no }) e g ∙ ap₂ (λ (yes : A) (no : A). record { before = y.before; done = y.done; yes = yes; no = no }) h k

pub each_member_once : tell.EachMemberIsAssignedOnce
each_member_once v p f root start tree there lasts parts = λ a b ha hb n low high. let same = once (only v) p tree f lasts root there parts start a b ha hb n low high in seen_same (a n) (b n) same.before same.done same.yes same.no

pub each_member : tell.EachMemberIsAssigned
each_member v p f root start tree there lasts parts = solves (only v) p tree f lasts root there parts start
