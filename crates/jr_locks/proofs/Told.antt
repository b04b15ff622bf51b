-- What is told of copies, one row more.
use Rattle.std.proofs.Common.{◌≡◌, ◌≢◌, ◌⊎◌, refl, sym, ◌∙◌, ap, subst, inl, inr, ⊎_elim, arith, ℕ, ◌+◌, ◌<◌, ◌≤◌, Bool, true, false, List, [], length, nat_eq}
use Rattle.std.specs.Prelude.{Option, Some, None, if◌then◌else◌, not, nat_le, nat_lt, replicate, slice_set}
use Rattle.std.proofs.lemmas.Bool.{cases_lt, cases_eq, true≢false, and_parts, and_from, and_cases, and_left, and_right, not-true, not_from_false, leb-true, leb-false, ltb-true, ltb-false, le-leb, lt-leb, lt-ltb, le-ltb}
use Rattle.std.proofs.lemmas.Bool.Decides.{Decides-eqb}
use Rattle.std.proofs.lemmas.List.{length-replicate, length-set, get_or-replicate, get_or-set_same, get_or-set_other, get_or_past}
use Rattle.jr_change.specs.declared.change.RowRange.{RowRange}
use Rattle.jr_locks.specs.Origins.{no_row, origin_of}
use Rattle.jr_locks.specs.Locked.{IsFirstCopyOf, every, between, is_within, is_outside, is_in, is_beside}
use Rattle.jr_locks.specs.Copies.{AreTold, AreToldTo, AreJoined, AreToldNear, AreAllTold, old_count, earlier, with_first, with_row, with_later}
use Rattle.jr_locks.specs.declared.moving.Copies.{Copies}

-- ---- rows of a range

between_is : (first end n : ℕ) → between first end n ≡ true → (first ≤ n) × (n < end)
between_is first end n h = let w = and_parts (nat_le first n) (nat_lt n end) h in (leb-true first n w.0, ltb-true n end w.1)

is_between : (first end n : ℕ) → first ≤ n → n < end → between first end n ≡ true
is_between first end n low high = and_from (nat_le first n) (nat_lt n end) (le-leb first n low) (lt-ltb n end high)

outside_is : (range : RowRange) (n : ℕ) → is_outside range n ≡ true → (n < range.first) ⊎ (range.end ≤ n)
outside_is range n h = ⊎_elim (λ e. inl (leb-false range.first n e)) (λ e. inr (ltb-false n range.end e))
    (and_cases (nat_le range.first n) (nat_lt n range.end) (not-true (is_within range n) h))

outside_low : (range : RowRange) (n : ℕ) → n < range.first → is_outside range n ≡ true
outside_low range n lt = not_from_false (is_within range n) (and_left (nat_le range.first n) (nat_lt n range.end) (lt-leb range.first n lt))

outside_high : (range : RowRange) (n : ℕ) → range.end ≤ n → is_outside range n ≡ true
outside_high range n le = not_from_false (is_within range n) (and_right (nat_le range.first n) (nat_lt n range.end) (le-ltb n range.end le))

pub told_as : (among other : ℕ → Bool) (origin : List ℕ) (old : ℕ) (copies : List ℕ) → ((n : ℕ) → among n ≡ other n) → AreTold among origin old copies → AreTold other origin old copies
told_as among other origin old copies same h = record {
  count = h.count;
  first = λ d told. let f = h.first d told in record { copy = f.copy; one = sym (same (origin_of copies d)) ∙ f.one; first = λ e lt one is. f.first e lt (same e ∙ one) is };
  whole = λ d none. record { no = λ c inside lt one is. (h.whole d none).no c inside lt (same c ∙ one) is };
}

-- a copy of an old row is a row
pub is_row : (origin : List ℕ) (c d : ℕ) → origin_of origin c ≡ d → d < no_row → c < length origin
is_row origin c d is real = ⊎_elim (λ lt. lt) (λ past. let e = sym is ∙ get_or_past origin c no_row past in absurd (omega (arith, e, real))) (cases_lt c (length origin))

-- ---- nothing is told

nothing_told : (n d : ℕ) → origin_of (replicate n no_row) d ≡ no_row
nothing_told n d = ⊎_elim (λ lt. get_or-replicate n d no_row no_row lt) (λ past. get_or_past (replicate n no_row) d no_row (let e = length-replicate n no_row in omega (arith, e, past))) (cases_lt d n)

abbrev span : ℕ → ℕ → RowRange
span first end = record { first = first; end = end }

none_told : (origin : List ℕ) (old first : ℕ) → AreTold (is_within (span first first)) origin old (replicate old no_row)
none_told origin old first = record {
  count = length-replicate old no_row;
  first = λ d told. absurd (told (nothing_told old d));
  whole = λ d none. record { no = λ c inside lt one is. let w = between_is first first c one in absurd (omega (arith, w.0, w.1)) };
}

-- ---- the first copy of one old row more

module _ (origin copies : List ℕ) (d at : ℕ) where
  same : nat_eq (origin_of copies d) no_row ≡ true → d < length copies → origin_of (with_first copies d at) d ≡ at
  same free inside = ap (λ b. origin_of (if b then slice_set copies d at else copies) d) free ∙ get_or-set_same copies d at no_row inside

  long : length (with_first copies d at) ≡ length copies
  long = by (nat_eq (origin_of copies d) no_row)
    where
      by : (b : Bool) → length (if b then slice_set copies d at else copies) ≡ length copies
      by true = length-set copies d at
      by false = refl

  kept_there : nat_eq (origin_of copies d) no_row ≡ false → (e : ℕ) → origin_of (with_first copies d at) e ≡ origin_of copies e
  kept_there taken e = ap (λ b. origin_of (if b then slice_set copies d at else copies) e) taken

  kept_other : (e : ℕ) → e ≢ d → origin_of (with_first copies d at) e ≡ origin_of copies e
  kept_other e apart = by (nat_eq (origin_of copies d) no_row)
    where
      by : (b : Bool) → origin_of (if b then slice_set copies d at else copies) e ≡ origin_of copies e
      by true = get_or-set_other copies d e at no_row apart
      by false = refl

  kept_past : length copies ≤ d → (e : ℕ) → origin_of (with_first copies d at) e ≡ origin_of copies e
  kept_past past e = ⊎_elim
      (λ here. get_or_past (with_first copies d at) e no_row (let l = long in omega (arith, here, past, l)) ∙ sym (get_or_past copies e no_row (omega (arith, here, past))))
      (λ apart. kept_other e apart)
      (cases_eq e d)

  -- it is told now, where nothing was told of that row
  abbrev IsNew : ℕ → Type 0
  IsNew e = (e ≡ d) × (origin_of (with_first copies d at) e ≡ at) × (d < length copies) × (origin_of copies d ≡ no_row)

  -- it is told of that row, or what was told
  was : (e : ℕ) → IsNew e ⊎ (origin_of (with_first copies d at) e ≡ origin_of copies e)
  was e = ⊎_elim
      (λ here. ⊎_elim
      (λ inside. by (nat_eq (origin_of copies d) no_row) refl inside here)
      (λ past. inr (kept_past past e))
      (cases_lt d (length copies)))
      (λ apart. inr (kept_other e apart))
      (cases_eq e d)
    where
      by : (b : Bool) → nat_eq (origin_of copies d) no_row ≡ b → d < length copies → e ≡ d → IsNew e ⊎ (origin_of (with_first copies d at) e ≡ origin_of copies e)
      by true free inside here = inl (here, ap (origin_of (with_first copies d at)) here ∙ same free inside, inside, (Decides-eqb (origin_of copies d) no_row).0 free)
      by false taken inside here = inr (kept_there taken e)

  told_now : at ≢ no_row → d < length copies → origin_of (with_first copies d at) d ≢ no_row
  told_now real inside none = by (nat_eq (origin_of copies d) no_row) refl
    where
      by : (b : Bool) → nat_eq (origin_of copies d) no_row ≡ b → ⊥
      by true free = real (sym (same free inside) ∙ none)
      by false taken = let e = (Decides-eqb (origin_of copies d) no_row).1 (sym (kept_there taken d) ∙ none) in absurd (true≢false (sym e ∙ taken))

  joined_at : d < length copies → origin_of (with_first copies d at) d ≡ earlier (origin_of copies d) at
  joined_at inside = by (nat_eq (origin_of copies d) no_row)
    where
      by : (b : Bool) → origin_of (if b then slice_set copies d at else copies) d ≡ (if b then at else origin_of copies d)
      by true = get_or-set_same copies d at no_row inside
      by false = refl

-- ---- one row more

module _ (origin copies : List ℕ) (old first at : ℕ) where
  wider : (c : ℕ) → is_within (span first at) c ≡ true → is_within (span first (at + 1)) c ≡ true
  wider c one = let w = between_is first at c one in is_between first (at + 1) c w.0 (omega (arith, w.1))

  narrower : (c : ℕ) → c < at → is_within (span first (at + 1)) c ≡ true → is_within (span first at) c ≡ true
  narrower c lt one = is_between first at c (between_is first (at + 1) c one).0 lt

  still : (c d : ℕ) → IsFirstCopyOf (is_within (span first at)) origin c d → IsFirstCopyOf (is_within (span first (at + 1))) origin c d
  still c d f = record {
    copy = f.copy;
    one = wider c f.one;
    first = λ e lt one is. let w = between_is first at c f.one in f.first e lt (narrower e (omega (arith, lt, w.1)) one) is;
  }

  told_more : old ≤ no_row → at < no_row → first ≤ at → AreTold (is_within (span first at)) origin old copies → AreTold (is_within (span first (at + 1))) origin old (with_row origin at copies)
  told_more fits small low h = by (nat_eq (origin_of origin at) no_row) refl
    where
      above : (c : ℕ) → is_within (span first (at + 1)) c ≡ true → at ≤ c → c ≡ at
      above c one le = let w = between_is first (at + 1) c one in omega (arith, w.1, le)

      by : (b : Bool) → nat_eq (origin_of origin at) no_row ≡ b → AreTold (is_within (span first (at + 1))) origin old (if b then copies else with_first copies (origin_of origin at) at)
      by true none = record {
        count = h.count;
        first = λ d told. still (origin_of copies d) d (h.first d told);
        whole = λ d untold. record {
          no = λ c inside lt one is. ⊎_elim
              (λ lower. (h.whole d untold).no c inside lt (narrower c lower one) is)
              (λ here. let e : c ≡ at = above c one here in let f : d ≡ no_row = sym is ∙ ap (origin_of origin) e ∙ (Decides-eqb (origin_of origin at) no_row).0 none in
              absurd (omega (arith, f, inside, fits)))
              (cases_lt c at);
        };
      }
      by false some = let from = origin_of origin at in record {
        count = long origin copies from at ∙ h.count;
        first = λ d told. ⊎_elim
            (λ now. subst (λ c. IsFirstCopyOf (is_within (span first (at + 1))) origin c d) (sym now.1)
            (record {
              copy = sym now.0;
              one = is_between first (at + 1) at low (omega arith);
              first = λ e lt one is. let l = h.count in let m = now.0 in let n = now.2 in
                  (h.whole d (ap (origin_of copies) now.0 ∙ now.3)).no e (omega (arith, l, m, n)) (is_row origin e d is (omega (arith, l, m, n, fits))) (narrower e lt one) is;
            }))
            (λ kept. subst (λ c. IsFirstCopyOf (is_within (span first (at + 1))) origin c d) (sym kept) (still (origin_of copies d) d (h.first d (λ none. told (kept ∙ none)))))
            (was origin copies from at d);
        whole = λ d untold. record {
          no = λ c inside lt one is. ⊎_elim
              (λ lower. (h.whole d (⊎_elim (λ now. let e = sym now.1 ∙ untold in absurd (omega (arith, e, small))) (λ kept. sym kept ∙ untold) (was origin copies from at d))).no c inside lt
              (narrower c lower one) is)
              (λ here. let e : c ≡ at = above c one here in let f : from ≡ d = sym (ap (origin_of origin) e) ∙ is in let l = h.count in
              told_now origin copies from at (λ g. absurd (omega (arith, g, small))) (omega (arith, f, inside, l)) (ap (origin_of (with_first copies from at)) f ∙ untold))
              (cases_lt c at);
        };
      }

pub told_begun : (origin : List ℕ) (old : ℕ) (range : RowRange) → AreToldTo origin old (replicate old no_row) range range.first
told_begun origin old range = record { told = none_told origin old range.first; starts = omega arith; ends = λ more. omega arith }

pub told_next : (origin copies : List ℕ) (old at : ℕ) (range : RowRange) → old ≤ no_row → at < no_row → at < range.end → AreToldTo origin old copies range at
    → AreToldTo origin old (with_row origin at copies) range (at + 1)
told_next origin copies old at range fits small lt h = record {
  told = told_more origin copies old range.first at fits small h.starts h.told;
  starts = let l = h.starts in omega (arith, l);
  ends = λ more. absurd (omega (arith, more, lt));
}

pub told_range : (origin copies : List ℕ) (old at : ℕ) (range : RowRange) → range.end ≤ at → AreToldTo origin old copies range at → AreTold (is_within range) origin old copies
told_range origin copies old at range over h = ⊎_elim
    (λ more. record {
      count = h.told.count;
      first = λ d told. let w = between_is range.first at (origin_of copies d) (h.told.first d told).one in let e = h.ends more in absurd (omega (arith, w.0, w.1, e));
      whole = λ d none. record { no = λ c inside lt one is. let w = between_is range.first range.end c one in let e = h.ends more in absurd (omega (arith, w.0, w.1, e, more)) };
    })
    (λ less. let e : at ≡ range.end = omega (arith, over, less) in told_as (is_within (span range.first at)) (is_within range) origin old copies (λ n. ap (λ k. between range.first k n) e) h.told)
    (cases_lt range.end at)

-- ---- two tables

pub none_joined : (before later : List ℕ) → AreJoined before later before 0
none_joined before later = record { count = refl; done = λ d lt. absurd (omega (arith, lt)); left = λ d low. refl }

pub joined_more : (before later all : List ℕ) (at : ℕ) → at < length before → AreJoined before later all at → AreJoined before later (with_later later at all) (at + 1)
joined_more before later all at inside h = record {
  count = long [] all at (origin_of later at) ∙ h.count;
  done = λ d lt. ⊎_elim
      (λ less. kept_other [] all at (origin_of later at) d (λ e. omega (arith, e, less)) ∙ h.done d less)
      (λ here. let e : d ≡ at = omega (arith, here, lt) in let l = h.count in
      subst (λ k. origin_of (with_later later at all) k ≡ earlier (origin_of before k) (origin_of later k)) (sym e)
      (joined_at [] all at (origin_of later at) (omega (arith, l, inside)) ∙ ap (λ x. earlier x (origin_of later at)) (h.left at (omega arith))))
      (cases_lt d at);
  left = λ d low. kept_other [] all at (origin_of later at) d (λ e. omega (arith, e, low)) ∙ h.left d (omega (arith, low));
}

earlier_first : (one other : ℕ) → one ≢ no_row → earlier one other ≡ one
earlier_first one other some = by (nat_eq one no_row) refl
  where
    by : (b : Bool) → nat_eq one no_row ≡ b → (if b then other else one) ≡ one
    by true none = absurd (some ((Decides-eqb one no_row).0 none))
    by false is = refl

earlier_second : (one other : ℕ) → one ≡ no_row → earlier one other ≡ other
earlier_second one other none = ap (λ b. if b then other else one) ((Decides-eqb one no_row).1 none)

module _ (origin before later all : List ℕ) (range : RowRange) (old count : ℕ) (size : count ≡ length origin) (fits : old ≤ no_row)
    (b : AreTold (is_within (span 0 range.first)) origin old before) (l : AreTold (is_within (span range.end count)) origin old later) (j : AreJoined before later all old) where
  low_first : (d : ℕ) → origin_of before d ≢ no_row → IsFirstCopyOf (is_outside range) origin (origin_of before d) d
  low_first d some = let f = b.first d some in let w = between_is 0 range.first (origin_of before d) f.one in record {
    copy = f.copy;
    one = outside_low range (origin_of before d) w.1;
    first = λ e lt one is. f.first e lt (is_between 0 range.first e (omega arith) (omega (arith, lt, w.1))) is;
  }

  high_first : (d : ℕ) → d < old → origin_of before d ≡ no_row → origin_of later d ≢ no_row → IsFirstCopyOf (is_outside range) origin (origin_of later d) d
  high_first d inside none some = let f = l.first d some in let w = between_is range.end count (origin_of later d) f.one in record {
    copy = f.copy;
    one = outside_high range (origin_of later d) w.0;
    first = λ e lt one is. ⊎_elim
        (λ low. (b.whole d none).no e inside (is_row origin e d is (omega (arith, inside, fits))) (is_between 0 range.first e (omega arith) low) is)
        (λ high. f.first e lt (is_between range.end count e high (omega (arith, lt, w.1))) is)
        (outside_is range e one);
  }

  past_none : (d : ℕ) → old ≤ d → origin_of all d ≡ no_row
  past_none d past = j.left d past ∙ get_or_past before d no_row (let c = b.count in omega (arith, c, past))

  pub told_outside : AreTold (is_outside range) origin old all
  told_outside = record {
    count = j.count ∙ b.count;
    first = λ d told. ⊎_elim
        (λ inside. ⊎_elim
        (λ none. let e = j.done d inside ∙ earlier_second (origin_of before d) (origin_of later d) none in
        subst (λ c. IsFirstCopyOf (is_outside range) origin c d) (sym e) (high_first d inside none (λ g. told (e ∙ g))))
        (λ some. subst (λ c. IsFirstCopyOf (is_outside range) origin c d) (sym (j.done d inside ∙ earlier_first (origin_of before d) (origin_of later d) some)) (low_first d some))
        (cases_eq (origin_of before d) no_row))
        (λ past. absurd (told (past_none d past)))
        (cases_lt d old);
    whole = λ d untold. record {
      no = λ c inside lt one is.
          let none : origin_of before d ≡ no_row = ⊎_elim (λ e. e) (λ some. absurd (some (sym (j.done d inside ∙ earlier_first (origin_of before d) (origin_of later d) some) ∙ untold))) (cases_eq (origin_of before d) no_row) in
          let also : origin_of later d ≡ no_row = sym (j.done d inside ∙ earlier_second (origin_of before d) (origin_of later d) none) ∙ untold in
          ⊎_elim
          (λ low. (b.whole d none).no c inside lt (is_between 0 range.first c (omega arith) low) is)
          (λ high. (l.whole d also).no c inside lt (is_between range.end count c high (omega (arith, lt, size))) is)
          (outside_is range c one);
    };
  }

-- ---- all tables

told_whole : (origin first : List ℕ) (old count : ℕ) → count ≡ length origin → AreTold (is_within (span 0 count)) origin old first → AreTold every origin old first
told_whole origin first old count size h = record {
  count = h.count;
  first = λ d told. let f = h.first d told in let w = between_is 0 count (origin_of first d) f.one in
      record { copy = f.copy; one = refl; first = λ e lt one is. f.first e lt (is_between 0 count e (omega arith) (omega (arith, lt, w.1))) is };
  whole = λ d none. record { no = λ c inside lt one is. (h.whole d none).no c inside lt (is_between 0 count c (omega arith) (omega (arith, lt, size))) is };
}

told_beside : (origin inner outer : List ℕ) (range : RowRange) (old n : ℕ) → AreTold (is_within range) origin old inner → AreTold (is_outside range) origin old outer
    → AreTold (is_beside (Some range) n) origin old (if is_in (Some range) n then inner else outer)
told_beside origin inner outer range old n i o = by (is_within range n) refl
  where
    by : (b : Bool) → is_within range n ≡ b → AreTold (is_beside (Some range) n) origin old (if b then inner else outer)
    by true is = told_as (is_within range) (is_beside (Some range) n) origin old inner (λ c. ap (λ b. if b then is_within range c else not (is_within range c)) (sym is)) i
    by false is = told_as (is_outside range) (is_beside (Some range) n) origin old outer (λ c. ap (λ b. if b then is_within range c else not (is_within range c)) (sym is)) o

-- with a range
pub told_by_range : (origin : List ℕ) (c : Copies) (range : RowRange) (old count : ℕ) → count ≡ length origin → count ≤ no_row → c.range ≡ Some range
    → AreTold (is_within (span 0 count)) origin old c.first.items → AreTold (is_within range) origin old c.inner.items → AreTold (is_outside range) origin old c.outer.items → AreAllTold origin c
told_by_range origin c range old count size small is h i o = record {
  fits = omega (arith, size, small);
  first = told_whole origin c.first.items (old_count c) count size (subst (λ k. AreTold (is_within (span 0 count)) origin k c.first.items) (sym h.count) h);
  near = λ n. subst (λ (r : Option RowRange). AreToldNear r (is_beside r n) origin (old_count c) (if is_in r n then c.inner.items else c.outer.items)) (sym is)
      (subst (λ k. AreTold (is_beside (Some range) n) origin k (if is_in (Some range) n then c.inner.items else c.outer.items)) (sym h.count)
      (told_beside origin c.inner.items c.outer.items range old n i o));
}

-- without one
pub told_by_all : (origin : List ℕ) (c : Copies) (old count : ℕ) → count ≡ length origin → count ≤ no_row → c.range ≡ None → c.outer.items ≡ []
    → AreTold (is_within (span 0 count)) origin old c.first.items → AreAllTold origin c
told_by_all origin c old count size small is none h = record {
  fits = omega (arith, size, small);
  first = told_whole origin c.first.items (old_count c) count size (subst (λ k. AreTold (is_within (span 0 count)) origin k c.first.items) (sym h.count) h);
  near = λ n. subst (λ (r : Option RowRange). AreToldNear r (is_beside r n) origin (old_count c) (if is_in r n then c.inner.items else c.outer.items)) (sym is) none;
}
