-- Rows open and close one inside another, and so do their marks.
use Rattle.std.proofs.Common.{◌≡◌, ℕ, zero, suc, ◌+◌, ◌-◌, ◌<◌, ◌≤◌, ◌⊎◌, inl, inr, Bool, true, false, List, [], ◌∷◌, ◌++◌, length, refl, sym, ◌∙◌, ap, subst, arith, length-append}
use Rattle.std.specs.Prelude.{set, nat_eq, if◌then◌else◌}
use Rattle.std.proofs.Math.Dec.{eqb-suc-zero}
use Rattle.std.proofs.lemmas.Bool.{cases_eq, false≢true}
use Rattle.std.proofs.Math.ListN.{get_or-append}
use Rattle.std.proofs.Math.Seq.{get_or-append_seam}
use Rattle.std.proofs.lemmas.List.{length-set, get_or-set_same, get_or-set_other, set_past}
use Rattle.jr_base.specs.declared.text.Text.{Text}
use Rattle.jr_tree.specs.declared.label.Label.{Label}
use Rattle.jr_tree.specs.declared.label.Label.TheVariants as is
use Rattle.jr_tree.specs.declared.row.Row.{Row}
use Rattle.jr_tree.specs.declared.tree.Unit as declared_unit
use Rattle.jr_tree.specs.Rows.{Rows, row, label, parent, program_rows}
use Rattle.jr_index.specs.declared.mark.Mark.{Mark}
use Rattle.jr_index.specs.Events.{Event, Open, Close, Pass, Own, OwnLast, Declare, Restart, Events, program_events}
use Rattle.jr_index.specs.Marking.{Course, no_token, mark_at, with_own, with_end, is_hidden, new_mark, step, run, start, program_marks}
use Rattle.jr_index.specs.Within.{IsWritten, AreWithin}
use Rattle.jr_index.proofs.Labels.{built_program, built_over}

abbrev first : List Mark → ℕ → ℕ
first ms n = (mark_at ms n).first

abbrev after : List Mark → ℕ → ℕ
after ms n = (mark_at ms n).after

abbrev none : Mark
none = record { first = no_token; after = no_token; own = no_token }

-- ---- marks

module _ (ms : List Mark) (o t : ℕ) where
  -- one mark is replaced
  set_there : (m : Mark) → o < length ms → mark_at (set ms o m) o ≡ m
  set_there m lt = get_or-set_same ms o m none lt

  pub set_elsewhere : (m : Mark) (k : ℕ) → (k ≡ o → ⊥) → mark_at (set ms o m) k ≡ mark_at ms k
  set_elsewhere m k ne = get_or-set_other ms o k m none ne

  set_nowhere : (m : Mark) (k : ℕ) → length ms ≤ o → mark_at (set ms o m) k ≡ mark_at ms k
  set_nowhere m k le = ap (λ all. mark_at all k) (set_past ms o m le)

  -- what a new mark shares with the one before stays as it was, for all rows
  pub stays : (f : Mark → ℕ) (m : Mark) → f m ≡ f (mark_at ms o) → (k : ℕ) → f (mark_at (set ms o m) k) ≡ f (mark_at ms k)
  stays f m e k =
      let w : (o < length ms) ⊎ (length ms ≤ o) = grind arith in
      elim w [
        | inl lt ↦ (elim (cases_eq k o) [
          | inl same ↦ subst (λ j. f (mark_at (set ms o m) j) ≡ f (mark_at ms j)) (sym same) (ap f (set_there m lt) ∙ e)
          | inr ne ↦ ap f (set_elsewhere m k ne)
        ])
        | inr le ↦ ap f (set_nowhere m k le)
      ]

-- ---- rows that are open

data IsOpen (p : Rows) : ℕ → ℕ → Type 0 where
  here : {n : ℕ} → IsOpen p n n
  up : {over n : ℕ} → IsOpen p (parent p over) n → IsOpen p over n

data Stands (p : Rows) (ms : List Mark) (over at n : ℕ) : Type 0 where
  is_open : IsOpen p over n → (0 < n → is_hidden (label p n) ≡ false → first ms n ≤ at) → Stands p ms over at n
  is_closed : (IsOpen p over n → ⊥) → IsOpen p over (parent p n) → (IsWritten p n → after ms n ≤ at) → Stands p ms over at n
  is_done : (IsOpen p over (parent p n) → ⊥) → (IsWritten p n → after ms n ≤ after ms (parent p n)) → Stands p ms over at n

record Holds (p : Rows) (ms : List Mark) (over at : ℕ) : Type 0 where
  many : length ms ≡ length p
  low : (over < length p) ⊎ ((length p ≡ 0) × (over ≡ 0))
  root : parent p 0 ≡ 0
  rises : (n : ℕ) → 0 < n → n < length p → parent p n < n
  whole : (n : ℕ) → n < length p → 0 < n → is_hidden (label p n) ≡ false → first ms n ≤ after ms n
  begins : (n : ℕ) → n < length p → IsWritten p n → first ms (parent p n) ≤ first ms n
  stands : (n : ℕ) → n < length p → Stands p ms over at n

-- ---- which rows are open

open_over : (p : Rows) (over n : ℕ) → IsOpen p over n → IsOpen p over (parent p n)
open_over p over _ IsOpen.here = IsOpen.up IsOpen.here
open_over p over n (IsOpen.up i) = IsOpen.up (open_over p (parent p over) n i)

-- the innermost one, or one that is open from its parent
split_open : (p : Rows) (over n : ℕ) → IsOpen p over n → (n ≡ over) ⊎ IsOpen p (parent p over) n
split_open p over _ IsOpen.here = inl refl
split_open p over n (IsOpen.up i) = inr i

open_like : (p q : Rows) → ((k : ℕ) → parent q k ≡ parent p k) → (over n : ℕ) → IsOpen p over n → IsOpen q over n
open_like p q same over _ IsOpen.here = IsOpen.here
open_like p q same over n (IsOpen.up i) = IsOpen.up (subst (λ k. IsOpen q k n) (sym (same over)) (open_like p q same (parent p over) n i))

module _ (p : Rows) (root : parent p 0 ≡ 0) (rises : (n : ℕ) → 0 < n → n < length p → parent p n < n) where
  parent_le : (k : ℕ) → k < length p → parent p k ≤ k
  parent_le zero lt = let r = root in omega arith
  parent_le (suc k) lt = let r = rises (suc k) (omega arith) lt in omega arith

  open_le : (over n : ℕ) → over < length p → IsOpen p over n → n ≤ over
  open_le over _ lt IsOpen.here = omega arith
  open_le over n lt (IsOpen.up i) = let q = parent_le over lt in let b = open_le (parent p over) n (omega arith) i in omega arith

-- other marks that begin and end at the same tokens, and tokens that are passed
module _ (p : Rows) (ms later : List Mark) (over at to : ℕ) (many : length later ≡ length ms) (firsts : (k : ℕ) → first later k ≡ first ms k)
    (afters : (k : ℕ) → after later k ≡ after ms k) (le : at ≤ to) where
  stands_on : (n : ℕ) → Stands p ms over at n → Stands p later over to n
  stands_on n (Stands.is_open o h) = Stands.is_open o (λ more seen. let f = firsts n in let l = h more seen in omega arith)
  stands_on n (Stands.is_closed c o h) = Stands.is_closed c o (λ w. let f = afters n in let l = h w in omega arith)
  stands_on n (Stands.is_done o h) = Stands.is_done o (λ w. let f = afters n in let g = afters (parent p n) in let l = h w in omega arith)

  goes : Holds p ms over at → Holds p later over to
  goes h = record {
    many = many ∙ h.many;
    low = h.low;
    root = h.root;
    rises = h.rises;
    whole = λ n lt more seen. let f = firsts n in let g = afters n in let l = h.whole n lt more seen in omega arith;
    begins = λ n lt w. let f = firsts n in let g = firsts (parent p n) in let l = h.begins n lt w in omega arith;
    stands = λ n lt. stands_on n (h.stands n lt);
  }

owned : (p : Rows) (ms : List Mark) (over at to token : ℕ) → at ≤ to → Holds p ms over at → Holds p (with_own ms over token) over to
owned p ms over at to token le h =
    let m : Mark = record (mark_at ms over) { own = token } in
    goes p ms (set ms over m) over at to (length-set ms over m) (stays ms over token (λ m. m.first) m refl) (stays ms over token (λ m. m.after) m refl) le h

-- ---- what is below the program alone begins anew

module _ (p : Rows) (ms : List Mark) (at : ℕ) (h : Holds p ms 0 at) where
  root_open : (over n : ℕ) → over ≡ 0 → IsOpen p over n → n ≡ 0
  root_open over _ e IsOpen.here = e
  root_open over n e (IsOpen.up o) = root_open (parent p over) n (ap (parent p) e ∙ h.root) o

  anew : (n : ℕ) → Stands p ms 0 at n → Stands p ms 0 0 n
  anew n (Stands.is_open o f) = Stands.is_open o (λ more seen. let z = root_open 0 n refl o in absurd (omega arith))
  anew n (Stands.is_closed c o f) = Stands.is_closed c o (λ w. let z = root_open 0 (parent p n) refl o in let b = w.below in absurd (omega arith))
  anew n (Stands.is_done o f) = Stands.is_done o f

  restarted : Holds p ms 0 0
  restarted = record { many = h.many; low = h.low; root = h.root; rises = h.rises; whole = h.whole; begins = h.begins; stands = λ n lt. anew n (h.stands n lt) }

restarts : (p : Rows) (ms : List Mark) (over at : ℕ) → Holds p ms over at → Holds p ms over (if nat_eq over 0 then 0 else at)
restarts p ms zero at h = restarted p ms at h
restarts p ms (suc n) at h = subst (λ b. Holds p ms (suc n) (if b then 0 else at)) (sym (eqb-suc-zero n)) h

-- at the end all but the program is done
module _ (p : Rows) (ms : List Mark) (at : ℕ) (h : Holds p ms 0 at) where
  done : (n : ℕ) → Stands p ms 0 at n → IsWritten p n → after ms n ≤ after ms (parent p n)
  done n (Stands.is_open o f) w =
      let z = root_open p ms at h 0 n refl o in
      let b = w.below in
      let top : parent p n ≡ 0 = ap (parent p) z ∙ h.root in
      absurd (omega arith)
  done n (Stands.is_closed c o f) w = let z = root_open p ms at h 0 (parent p n) refl o in let b = w.below in absurd (omega arith)
  done n (Stands.is_done o f) w = f w

  within : AreWithin p ms
  within = record { many = h.many; whole = h.whole; begins = h.begins; ends = λ n lt w. done n (h.stands n lt) w }

-- ---- a row opens

module _ (p : Rows) (ms : List Mark) (over at : ℕ) (h : Holds p ms over at) (l : Label) (x : Text) (before : ℕ) (m : Mark) where
  abbrev size : ℕ
  size = length p

  abbrev fresh : Row
  fresh = record { label = l; name = x; parent = over; end = size; previous = before }

  abbrev more : Rows
  more = p ++ fresh ∷ []

  abbrev marked : List Mark
  marked = ms ++ m ∷ []

  longer : length more ≡ size + 1
  longer = length-append p (fresh ∷ [])

  old_row : (k : ℕ) → k < size → row more k ≡ row p k
  old_row k lt = get_or-append p (fresh ∷ []) (record { label = is.Skip; name = []; parent = k; end = k + 1; previous = k }) k lt

  new_row : row more size ≡ fresh
  new_row = get_or-append_seam p fresh [] (record { label = is.Skip; name = []; parent = size; end = size + 1; previous = size })

  old_parent : (k : ℕ) → k < size → parent more k ≡ parent p k
  old_parent k lt = ap (λ (r : Row). r.parent) (old_row k lt)

  old_label : (k : ℕ) → k < size → label more k ≡ label p k
  old_label k lt = ap (λ (r : Row). r.label) (old_row k lt)

  new_parent : parent more size ≡ over
  new_parent = ap (λ (r : Row). r.parent) new_row

  old_mark : (k : ℕ) → k < size → mark_at marked k ≡ mark_at ms k
  old_mark k lt = let e = h.many in get_or-append ms (m ∷ []) none k (omega arith)

  mark_there : mark_at marked size ≡ m
  mark_there = subst (λ k. mark_at marked k ≡ m) h.many (get_or-append_seam ms m [] none)

  parent_low : (k : ℕ) → k < size → parent p k < size
  parent_low k lt = let b = parent_le p h.root h.rises k lt in omega arith

  over_low : 0 < size → over < size
  over_low some = elim h.low [ inl lt ↦ lt | inr e ↦ (let z = e.0 in absurd (omega arith)) ]

  open_on : (o n : ℕ) → o < size → IsOpen p o n → IsOpen more o n
  open_on o _ lt IsOpen.here = IsOpen.here
  open_on o n lt (IsOpen.up i) = IsOpen.up (subst (λ q. IsOpen more q n) (sym (old_parent o lt)) (open_on (parent p o) n (parent_low o lt) i))

  open_back : (o n : ℕ) → o < size → IsOpen more o n → IsOpen p o n
  open_back o _ lt IsOpen.here = IsOpen.here
  open_back o n lt (IsOpen.up i) =
      IsOpen.up (subst (λ q. IsOpen p q n) (old_parent o lt) (open_back (parent more o) n (let e = old_parent o lt in let b = parent_low o lt in omega arith) i))

  -- what was open is open below the new row
  still : (n : ℕ) → over < size → IsOpen p over n → IsOpen more size n
  still n lt i = IsOpen.up (subst (λ q. IsOpen more q n) (sym new_parent) (open_on over n lt i))

  was_open : (o n : ℕ) → over < size → n < size → o ≡ size → IsOpen more o n → IsOpen p over n
  was_open o _ lt less e IsOpen.here = absurd (omega arith)
  was_open o n lt less e (IsOpen.up i) = open_back over n lt (subst (λ q. IsOpen more q n) (ap (parent more) e ∙ new_parent) i)

  written_back : (n : ℕ) → n < size → IsWritten more n → IsWritten p n
  written_back n lt w =
      let same = old_parent n lt in
      record {
        below = (let b = w.below in omega arith);
        row = sym (ap is_hidden (old_label n lt)) ∙ w.row;
        over = sym (ap is_hidden (ap (label more) same ∙ old_label (parent p n) (parent_low n lt))) ∙ w.over;
      }

  old_first : (k : ℕ) → k < size → first marked k ≡ first ms k
  old_first k lt = ap (λ (m : Mark). m.first) (old_mark k lt)

  old_after : (k : ℕ) → k < size → after marked k ≡ after ms k
  old_after k lt = ap (λ (m : Mark). m.after) (old_mark k lt)

  parent_after : (n : ℕ) → n < size → after marked (parent more n) ≡ after ms (parent p n)
  parent_after n lt = ap (after marked) (old_parent n lt) ∙ old_after (parent p n) (parent_low n lt)

  parent_first : (n : ℕ) → n < size → first marked (parent more n) ≡ first ms (parent p n)
  parent_first n lt = ap (first marked) (old_parent n lt) ∙ old_first (parent p n) (parent_low n lt)

  stands_below : (n : ℕ) → n < size → Stands p ms over at n → Stands more marked size at n
  stands_below n lt (Stands.is_open o f) =
      Stands.is_open (still n (over_low (omega arith)) o) (λ some seen. let e = old_first n lt in let b = f some (sym (ap is_hidden (old_label n lt)) ∙ seen) in omega arith)
  stands_below n lt (Stands.is_closed c o f) =
      Stands.is_closed (λ i. c (was_open size n (over_low (omega arith)) lt refl i)) (subst (IsOpen more size) (sym (old_parent n lt)) (still (parent p n) (over_low (omega arith)) o))
      (λ w. let e = old_after n lt in let b = f (written_back n lt w) in omega arith)
  stands_below n lt (Stands.is_done o f) =
      Stands.is_done (λ i. o (was_open size (parent p n) (over_low (omega arith)) (parent_low n lt) refl (subst (IsOpen more size) (old_parent n lt) i)))
      (λ w. let e = old_after n lt in let g = parent_after n lt in let b = f (written_back n lt w) in omega arith)

  -- the new row begins here, or is not written
  module _ (begun : is_hidden l ≡ false → (m.first ≡ at) × (m.after ≡ at)) where
    -- the row over the new one
    over_stands : over < size → 0 < over → is_hidden (label p over) ≡ false → Stands p ms over at over → first ms over ≤ at
    over_stands lt some seen (Stands.is_open o f) = f some seen
    over_stands lt some seen (Stands.is_closed c o f) = absurd (c IsOpen.here)
    over_stands lt some seen (Stands.is_done o f) = absurd (o (IsOpen.up IsOpen.here))

    new_label : label more size ≡ l
    new_label = ap (λ (r : Row). r.label) new_row

    new_first : is_hidden (label more size) ≡ false → first marked size ≡ at
    new_first seen = ap (λ (m : Mark). m.first) mark_there ∙ (begun (sym (ap is_hidden new_label) ∙ seen)).0

    new_after : is_hidden (label more size) ≡ false → after marked size ≡ at
    new_after seen = ap (λ (m : Mark). m.after) mark_there ∙ (begun (sym (ap is_hidden new_label) ∙ seen)).1

    each_whole : (n : ℕ) → n < size + 1 → 0 < n → is_hidden (label more n) ≡ false → first marked n ≤ after marked n
    each_whole n lt some seen =
        let w : (n < size) ⊎ (size ≤ n) = grind arith in
        elim w [
          | inl less ↦ (let b = h.whole n less some (sym (ap is_hidden (old_label n less)) ∙ seen) in let f = old_first n less in let g = old_after n less in omega arith)
          | inr le ↦ (let same : size ≡ n = omega arith in
              subst (λ k. is_hidden (label more k) ≡ false → first marked k ≤ after marked k) same (λ seen. let f = new_first seen in let g = new_after seen in omega arith) seen)
        ]

    new_begins : IsWritten more size → first marked (parent more size) ≤ first marked size
    new_begins w =
        let some : 0 < over = subst (λ k. 0 < k) new_parent w.below in
        let lt : over < size = elim h.low [ inl lt ↦ lt | inr e ↦ (let z = e.1 in absurd (omega arith)) ] in
        let seen : is_hidden (label p over) ≡ false = sym (ap is_hidden (ap (label more) new_parent ∙ old_label over lt)) ∙ w.over in
        let b = over_stands lt some seen (h.stands over lt) in
        let f : first marked (parent more size) ≡ first ms over = ap (first marked) new_parent ∙ old_first over lt in
        let g = new_first w.row in
        omega arith

    each_begins : (n : ℕ) → n < size + 1 → IsWritten more n → first marked (parent more n) ≤ first marked n
    each_begins n lt w =
        let v : (n < size) ⊎ (size ≤ n) = grind arith in
        elim v [
          | inl less ↦ (let b = h.begins n less (written_back n less w) in let f = old_first n less in let g = parent_first n less in omega arith)
          | inr le ↦ (let same : size ≡ n = omega arith in subst (λ k. IsWritten more k → first marked (parent more k) ≤ first marked k) same new_begins w)
        ]

    new_stands : Stands more marked size at size
    new_stands = Stands.is_open IsOpen.here (λ some seen. let e = new_first seen in omega arith)

    each_stands : (n : ℕ) → n < size + 1 → Stands more marked size at n
    each_stands n lt =
        let w : (n < size) ⊎ (size ≤ n) = grind arith in
        elim w [
          | inl less ↦ stands_below n less (h.stands n less)
          | inr le ↦ (let same : size ≡ n = omega arith in subst (λ k. Stands more marked size at k) same new_stands)
        ]

    new_root : parent more 0 ≡ 0
    new_root =
        let w : (0 < size) ⊎ (size ≤ 0) = grind arith in
        elim w [
          | inl less ↦ old_parent 0 less ∙ h.root
          | inr le ↦ (let same : size ≡ 0 = omega arith in
              let none : over ≡ 0 = elim h.low [ inl lt ↦ absurd (omega arith) | inr e ↦ e.1 ] in
              subst (λ k. parent more k ≡ 0) same (new_parent ∙ none))
        ]

    new_rises : (n : ℕ) → 0 < n → n < size + 1 → parent more n < n
    new_rises n some lt =
        let w : (n < size) ⊎ (size ≤ n) = grind arith in
        elim w [
          | inl less ↦ (let b = h.rises n some less in let e = old_parent n less in omega arith)
          | inr le ↦ (let same : size ≡ n = omega arith in
              let lower = over_low (omega arith) in
              let e = new_parent in
              subst (λ k. parent more k < k) same (omega arith))
        ]

    opens : Holds more marked size at
    opens = let e = longer in record {
      many = (let k = length-append ms (m ∷ []) in let o = h.many in omega arith);
      low = inl (omega arith);
      root = new_root;
      rises = λ n some lt. new_rises n some (omega arith);
      whole = λ n lt some seen. each_whole n (omega arith) some seen;
      begins = λ n lt w. each_begins n (omega arith) w;
      stands = λ n lt. each_stands n (omega arith);
    }

-- ---- a row closes

module _ (p : Rows) (over : ℕ) (r : Row) where
  pub row_stays : {A : Type 0} (f : Row → A) → f r ≡ f (row p over) → (k : ℕ) → f (row (set p over r) k) ≡ f (row p k)
  row_stays f e k =
      let d : Row = record { label = is.Skip; name = []; parent = k; end = k + 1; previous = k } in
      let w : (over < length p) ⊎ (length p ≤ over) = grind arith in
      elim w [
        | inl lt ↦ (elim (cases_eq k over) [
          | inl same ↦ subst (λ j. f (row (set p over r) j) ≡ f (row p j)) (sym same)
              (ap f (get_or-set_same p over r (record { label = is.Skip; name = []; parent = over; end = over + 1; previous = over }) lt) ∙ e)
          | inr ne ↦ ap f (get_or-set_other p over k r d ne)
        ])
        | inr le ↦ ap (λ (all : Rows). f (row all k)) (set_past p over r le)
      ]

-- the rows but for an end, and the marks but for the end of the innermost row that is open
module _ (p q : Rows) (ms later : List Mark) (over at : ℕ) (h : Holds p ms over at) (size : length q ≡ length p) (parents : (k : ℕ) → parent q k ≡ parent p k)
    (labels : (k : ℕ) → label q k ≡ label p k) (many : length later ≡ length ms) (firsts : (k : ℕ) → first later k ≡ first ms k)
    (afters : (k : ℕ) → (k ≡ over → ⊥) → after later k ≡ after ms k)
    (ended : over < length p → is_hidden (label p over) ≡ false → after later over ≡ at) where
  abbrev next : ℕ
  next = parent p over

  opened : (n : ℕ) → IsOpen p next n → IsOpen q next n
  opened n i = open_like p q parents next n i

  was : (n : ℕ) → IsOpen q next n → IsOpen p next n
  was n i = open_like q p (λ k. sym (parents k)) next n i

  was_over : (n : ℕ) → IsOpen q next n → IsOpen p over n
  was_over n i = IsOpen.up (was n i)

  seen_back : (n : ℕ) → is_hidden (label q n) ≡ false → is_hidden (label p n) ≡ false
  seen_back n e = sym (ap is_hidden (labels n)) ∙ e

  written : (n : ℕ) → IsWritten q n → IsWritten p n
  written n w =
      let e = parents n in
      record { below = (let b = w.below in omega arith); row = seen_back n w.row; over = seen_back (parent p n) (subst (λ k. is_hidden (label q k) ≡ false) e w.over) }

  parent_firsts : (n : ℕ) → first later (parent q n) ≡ first ms (parent p n)
  parent_firsts n = ap (first later) (parents n) ∙ firsts (parent p n)

  not_over : (n : ℕ) → (IsOpen p over n → ⊥) → n ≡ over → ⊥
  not_over n c e = c (subst (λ k. IsOpen p over k) (sym e) IsOpen.here)

  done_still : (n : ℕ) → (IsOpen p over (parent p n) → ⊥) → (IsWritten p n → after ms n ≤ after ms (parent p n)) → Stands q later next at n
  done_still n o f = Stands.is_done (λ i. o (was_over (parent p n) (subst (λ k. IsOpen q next k) (parents n) i)))
      (λ w.
      let a = afters n (not_over n (λ i. o (open_over p over n i))) in
      let b : after later (parent q n) ≡ after ms (parent p n) = ap (after later) (parents n) ∙ afters (parent p n) (not_over (parent p n) o) in
      let l = f (written n w) in omega arith)

  -- below the program
  at_root : over ≡ 0 → (n : ℕ) → Stands p ms over at n → Stands q later next at n
  at_root e n (Stands.is_open o f) = Stands.is_open (opened n (stay n o)) (λ some seen. let g = firsts n in let l = f some (seen_back n seen) in omega arith)
    where
      stay : (n : ℕ) → IsOpen p over n → IsOpen p next n
      stay n o = subst (λ k. IsOpen p k n) (e ∙ sym (ap (parent p) e ∙ h.root)) o
  at_root e n (Stands.is_closed c o f) = Stands.is_closed (λ i. c (was_over n i)) (subst (IsOpen q next) (sym (parents n)) (opened (parent p n) (stay (parent p n) o)))
      (λ w. let g = afters n (not_over n c) in let l = f (written n w) in omega arith)
    where
      stay : (n : ℕ) → IsOpen p over n → IsOpen p next n
      stay n o = subst (λ k. IsOpen p k n) (e ∙ sym (ap (parent p) e ∙ h.root)) o
  at_root e n (Stands.is_done o f) = done_still n o f

  module _ (some : 0 < over) (lt : over < length p) where
    lower : next < over
    lower = h.rises over some lt

    none_over : IsOpen p next over → ⊥
    none_over i = let l = lower in let b = open_le p h.root h.rises next over (omega arith) i in absurd (omega arith)

    -- the row itself
    closes_here : Stands q later next at over
    closes_here = Stands.is_closed (λ i. none_over (was over i)) (subst (IsOpen q next) (sym (parents over)) IsOpen.here) (λ w. let e = ended lt (seen_back over w.row) in omega arith)

    -- a row right below it
    closes_below : (n : ℕ) → (IsOpen p over n → ⊥) → parent p n ≡ over → (IsWritten p n → after ms n ≤ at) → Stands q later next at n
    closes_below n c e f = Stands.is_done (λ i. none_over (was over (subst (IsOpen q next) (parents n ∙ e) i)))
        (λ w.
        let g = afters n (not_over n c) in
        let l = f (written n w) in
        let seen : is_hidden (label p over) ≡ false = subst (λ k. is_hidden (label p k) ≡ false) e (written n w).over in
        let b : after later (parent q n) ≡ at = ap (after later) (parents n ∙ e) ∙ ended lt seen in
        omega arith)

    above_root : (n : ℕ) → Stands p ms over at n → Stands q later next at n
    above_root n (Stands.is_open o f) = elim (split_open p over n o) [
      | inl e ↦ subst (Stands q later next at) (sym e) closes_here
      | inr i ↦ Stands.is_open (opened n i) (λ some seen. let g = firsts n in let l = f some (seen_back n seen) in omega arith)
    ]
    above_root n (Stands.is_closed c o f) = elim (split_open p over (parent p n) o) [
      | inl e ↦ closes_below n c e f
      | inr i ↦ Stands.is_closed (λ j. c (was_over n j)) (subst (IsOpen q next) (sym (parents n)) (opened (parent p n) i))
          (λ w. let g = afters n (not_over n c) in let l = f (written n w) in omega arith)
    ]
    above_root n (Stands.is_done o f) = done_still n o f

  each_closed : (n : ℕ) → n < length p → Stands q later next at n
  each_closed n lt =
      let w : (0 < over) ⊎ (over ≤ 0) = grind arith in
      elim w [
        | inl some ↦ (elim h.low [ inl there ↦ above_root some there n (h.stands n lt) | inr e ↦ (let z = e.1 in absurd (omega arith)) ])
        | inr le ↦ at_root (omega arith) n (h.stands n lt)
      ]

  -- the row that closes begins where it ends, or before
  over_whole : over < length p → 0 < over → is_hidden (label p over) ≡ false → Stands p ms over at over → first later over ≤ after later over
  over_whole lt some seen (Stands.is_open o f) = let e = ended lt seen in let g = firsts over in let l = f some seen in omega arith
  over_whole lt some seen (Stands.is_closed c o f) = absurd (c IsOpen.here)
  over_whole lt some seen (Stands.is_done o f) = absurd (o (IsOpen.up IsOpen.here))

  each_whole_closed : (n : ℕ) → n < length p → 0 < n → is_hidden (label q n) ≡ false → first later n ≤ after later n
  each_whole_closed n lt some seen = elim (cases_eq n over) [
    | inl e ↦ subst (λ k. first later k ≤ after later k) (sym e)
        (over_whole (omega arith) (omega arith) (subst (λ k. is_hidden (label p k) ≡ false) e (seen_back n seen)) (h.stands over (omega arith)))
    | inr ne ↦ (let f = firsts n in let g = afters n ne in let l = h.whole n lt some (seen_back n seen) in omega arith)
  ]

  next_low : (next < length q) ⊎ ((length q ≡ 0) × (next ≡ 0))
  next_low = elim h.low [
    | inl lt ↦ inl (let b = parent_le p h.root h.rises over lt in let e = size in omega arith)
    | inr e ↦ inr (size ∙ e.0, ap (parent p) e.1 ∙ h.root)
  ]

  closes : Holds q later next at
  closes = record {
    many = many ∙ h.many ∙ sym size;
    low = next_low;
    root = parents 0 ∙ h.root;
    rises = λ n some lt. (let e = parents n in let s = size in let l = h.rises n some (omega arith) in omega arith);
    whole = λ n lt some seen. (let s = size in each_whole_closed n (omega arith) some seen);
    begins = λ n lt w. (let s = size in let f = firsts n in let g = parent_firsts n in let l = h.begins n (omega arith) (written n w) in omega arith);
    stands = λ n lt. (let s = size in each_closed n (omega arith));
  }

module _ (p : Rows) (ms : List Mark) (over at : ℕ) (h : Holds p ms over at) where
  abbrev ends : Row
  ends = record (row p over) { end = length p }

  abbrev ended_marks : List Mark
  ended_marks = with_end ms over at

  abbrev ending : Mark
  ending = record (mark_at ms over) { after = at }

  row_closes : Holds (set p over ends) ended_marks (parent p over) at
  row_closes = closes p (set p over ends) ms ended_marks over at h (length-set p over ends) (row_stays p over ends (λ (r : Row). r.parent) refl)
      (row_stays p over ends (λ (r : Row). r.label) refl) (length-set ms over ending) (stays ms over at (λ (m : Mark). m.first) ending refl)
      (λ k ne. ap (λ (m : Mark). m.after) (set_elsewhere ms over at ending k ne))
      (λ lt seen. ap (λ (m : Mark). m.after) (set_there ms over at ending (let e = h.many in omega arith)))

  hidden_closes : is_hidden (label p over) ≡ true → Holds (set p over ends) ms (parent p over) at
  hidden_closes hidden = closes p (set p over ends) ms ms over at h (length-set p over ends) (row_stays p over ends (λ (r : Row). r.parent) refl)
      (row_stays p over ends (λ (r : Row). r.label) refl) refl (λ k. refl) (λ k ne. refl) (λ lt seen. absurd (false≢true (sym seen ∙ hidden)))

  either_closes : (b : Bool) → is_hidden (label p over) ≡ b → Holds (set p over ends) (if b then ms else ended_marks) (parent p over) at
  either_closes true e = hidden_closes e
  either_closes false e = row_closes

-- ---- one step, and all of them

abbrev HoldsAt : Course → Type 0
HoldsAt c = Holds c.building.rows c.marks c.building.over c.at

begins_here : (c : Course) (l : Label) → is_hidden l ≡ false → ((new_mark l c).first ≡ c.at) × ((new_mark l c).after ≡ c.at)
begins_here c l seen =
    let m : new_mark l c ≡ record { first = c.at; after = c.at; own = no_token }
    = ap (λ b. if b then record { first = c.declared; after = c.declared; own = c.declared } else record { first = c.at; after = c.at; own = no_token }) seen in
    (ap (λ (m : Mark). m.first) m, ap (λ (m : Mark). m.after) m)

holds_still : (c : Course) (e : Event) → HoldsAt c → HoldsAt (step e c)
holds_still c (Open l x) h = opens c.building.rows c.marks c.building.over c.at h l x c.building.before (new_mark l c) (begins_here c l)
holds_still c Close h = either_closes c.building.rows c.marks c.building.over c.at h (is_hidden (label c.building.rows c.building.over)) refl
holds_still c (Pass n) h = goes c.building.rows c.marks c.marks c.building.over c.at (c.at + n) refl (λ k. refl) (λ k. refl) (omega arith) h
holds_still c Own h = owned c.building.rows c.marks c.building.over c.at (c.at + 1) c.at (omega arith) h
holds_still c OwnLast h = owned c.building.rows c.marks c.building.over c.at c.at (c.at - 1) (omega arith) h
holds_still c Declare h = owned c.building.rows c.marks c.building.over c.at (c.at + 1) c.at (omega arith) h
holds_still c Restart h = restarts c.building.rows c.marks c.building.over c.at h

holds_on : (es : Events) (c : Course) → HoldsAt c → HoldsAt (run c es)
holds_on [] c h = h
holds_on (e ∷ es) c h = holds_on es (step e c) (holds_still c e h)

holds_first : HoldsAt start
holds_first = record {
  many = refl;
  low = inr (refl, refl);
  root = refl;
  rises = λ n some lt. absurd (omega arith);
  whole = λ n lt some seen. absurd (omega arith);
  begins = λ n lt w. absurd (omega arith);
  stands = λ n lt. absurd (omega arith);
}

pub marks_within : (us : List declared_unit.Unit) → AreWithin (program_rows us) (program_marks us)
marks_within us =
    let c = run start (program_events us) in
    let h : HoldsAt c = holds_on (program_events us) start holds_first in
    let top : Holds c.building.rows c.marks 0 c.at = subst (λ k. Holds c.building.rows c.marks k c.at) (built_over us) h in
    subst (λ p. AreWithin p c.marks) (built_program us) (within c.building.rows c.marks c.at top)

pub within_seen : {p q : Rows} {ms ns : List Mark} → AreWithin p ms → p ≡ q → ns ≡ ms → AreWithin q ns
within_seen {p} {q} {ms} {ns} h e k = subst (λ all. AreWithin all ns) e (subst (λ all. AreWithin p all) (sym k) h)
