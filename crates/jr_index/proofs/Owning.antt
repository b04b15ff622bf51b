-- What is written as tokens has its own token among them.
use Rattle.std.proofs.Common.{◌≡◌, ℕ, ◌+◌, ◌-◌, ◌<◌, ◌≤◌, ◌⊎◌, inl, inr, Bool, true, false, List, [], ◌∷◌, ◌++◌, length, Some, refl, sym, ◌∙◌, ap, subst, arith, length-append, append_assoc}
use Rattle.std.specs.Prelude.{slice_get, if◌then◌else◌}
use Rattle.std.proofs.lemmas.Bool.{false≢true}
use Rattle.std.proofs.lemmas.Option.{slice_get-get_or}
use Rattle.std.proofs.lemmas.List.{length-set, get_or-set_same, get_or-set_other}
use Rattle.std.proofs.Math.ListN.{get_or, get_or-append}
use Rattle.std.proofs.Math.Seq.{get_or-append_seam}
use Rattle.jr_base.specs.declared.text.Text.{Text}
use Rattle.jr_base.specs.declared.kind.Kind.{Kind}
use Rattle.jr_tree.specs.declared.label.Label.{Label}
use Rattle.jr_tree.specs.declared.label.Label.TheVariants as is
use Rattle.jr_tree.specs.declared.row.Row.{Row}
use Rattle.jr_tree.specs.Words.{Tokens}
use Rattle.jr_tree.specs.Rows.{Rows, row, label, name, parent, end}
use Rattle.jr_index.specs.declared.mark.Mark.{Mark}
use Rattle.jr_index.specs.Events.{Events, Open, Close, Pass, Own, OwnLast, Declare, named}
use Rattle.jr_index.specs.Building.{State}
use Rattle.jr_index.specs.Marking.{Course, no_token, mark_at, with_own, with_end, is_hidden, new_mark, step, run}
use Rattle.jr_index.specs.Naming.{has_own, own_kind, AreOwn}
use Rattle.jr_index.specs.Writing.{Written, Leads}
use Rattle.jr_index.proofs.Adding.{adds_two}
use Rattle.jr_index.proofs.Nesting.{stays, set_elsewhere, row_stays}

-- one part behind the other
pub run_append : (c : Course) (xs ys : Events) → run c (xs ++ ys) ≡ run (run c xs) ys
run_append c xs ys =
    let was : Written = record { has_failed = false; course = c } in
    let between : Written = record { has_failed = false; course = run c xs } in
    let done : Written = record { has_failed = false; course = run (run c xs) ys } in
    let h : Leads was between [] xs = record { done = λ ok. (refl, refl) } in
    let k : Leads between done [] ys = record { done = λ ok. (refl, refl) } in
    sym ((adds_two h k).done refl).1

-- ---- where tokens are read

-- from this number on these tokens stand
pub record Reads (all : Tokens) (at : ℕ) (ts : Tokens) : Type 0 where
  pub front : Tokens
  pub rest : Tokens
  pub is : all ≡ front ++ (ts ++ rest)
  pub size : length front ≡ at

reads_first : {all : Tokens} {at : ℕ} (ts us : Tokens) → Reads all at (ts ++ us) → Reads all at ts
reads_first ts us r = record { front = r.front; rest = us ++ r.rest; is = r.is ∙ ap (λ xs. r.front ++ xs) (append_assoc ts us r.rest); size = r.size }

reads_next : {all : Tokens} {at : ℕ} (ts us : Tokens) → Reads all at (ts ++ us) → Reads all (at + length ts) us
reads_next ts us r = record {
  front = r.front ++ ts;
  rest = r.rest;
  is = r.is ∙ ap (λ xs. r.front ++ xs) (append_assoc ts us r.rest) ∙ sym (append_assoc r.front ts (us ++ r.rest));
  size = (let s = r.size in let l = length-append r.front ts in omega arith);
}

token_at : {all : Tokens} {at : ℕ} (t : Kind) → Reads all at (t ∷ []) → slice_get all at ≡ Some t
token_at {all} {at} t r =
    let s = r.size in
    let whole : all ≡ r.front ++ t ∷ r.rest = r.is in
    let l = length-append r.front (t ∷ r.rest) in
    let l2 = ap length whole in
    subst (λ k. slice_get all k ≡ Some t) s
    (slice_get-get_or all (length r.front) t (omega arith) ∙ ap Some (ap (λ xs. get_or xs (length r.front) t) whole ∙ get_or-append_seam r.front t r.rest t))

-- ---- what stays

-- rows and marks stand as they did, but for the mark of the innermost row that is open; more may have come
pub record Kept (c d : Course) : Type 0 where
  pub over : d.building.over ≡ c.building.over
  pub many : length d.marks ≡ length d.building.rows
  pub grows : length c.building.rows ≤ length d.building.rows
  pub rows : (k : ℕ) → k < length c.building.rows → row d.building.rows k ≡ row c.building.rows k
  pub marks : (k : ℕ) → k < length c.building.rows → (k ≡ c.building.over → ⊥) → mark_at d.marks k ≡ mark_at c.marks k

pub record Fits (c : Course) : Type 0 where
  pub many : length c.marks ≡ length c.building.rows
  pub low : c.building.over < length c.building.rows

pub fits_still : {c d : Course} → Fits c → Kept c d → Fits d
fits_still f k = record { many = k.many; low = (let l = f.low in let g = k.grows in let o = k.over in omega arith) }

pub kept_two : {c d e : Course} → Kept c d → Kept d e → Kept c e
kept_two {c} {d} {e} a b =
    let g = a.grows in let h = b.grows in
    record {
      over = b.over ∙ a.over;
      many = b.many;
      grows = omega arith;
      rows = λ k lt. b.rows k (omega arith) ∙ a.rows k lt;
      marks = λ k lt ne. b.marks k (omega arith) (λ e. ne (e ∙ a.over)) ∙ a.marks k lt ne;
    }

-- rows from one number up to another that stand as they did have their own tokens still
pub own_still : {T : Tokens} {c d : Course} (from to : ℕ) → Kept c d → to ≤ length c.building.rows → c.building.over < from
    → AreOwn T c.building.rows c.marks from to → AreOwn T d.building.rows d.marks from to
own_still {T} {c} {d} from to k le above h = record {
  own = λ n ge lt has.
      let r = k.rows n (omega arith) in
      let m = k.marks n (omega arith) (λ e. absurd (omega arith)) in
      let l : label d.building.rows n ≡ label c.building.rows n = ap (λ (x : Row). x.label) r in
      let x : name d.building.rows n ≡ name c.building.rows n = ap (λ (x : Row). x.name) r in
      ap (λ (m : Mark). slice_get T m.own) m ∙ h.own n ge lt (sym (ap has_own l) ∙ has) ∙ sym (ap (λ l. Some (own_kind l (name d.building.rows n))) l ∙ ap (λ x. Some (own_kind (label c.building.rows n) x)) x);
}

own_two : {T : Tokens} {p : Rows} {ms : List Mark} (a b c : ℕ) → AreOwn T p ms a b → AreOwn T p ms b c → AreOwn T p ms a c
own_two a b c h k = record {
  own = λ n ge lt has. let w : (n < b) ⊎ (b ≤ n) = grind arith in elim w [ inl l ↦ h.own n ge l has | inr g ↦ k.own n g lt has ];
}

-- ---- events that stand for tokens

-- one part: tokens are passed, and what has come has its own tokens
pub record Part (T : Tokens) (c d : Course) (ts : Tokens) : Type 0 where
  pub kept : Kept c d
  pub at : d.at ≡ c.at + length ts
  pub own : AreOwn T d.building.rows d.marks (length c.building.rows) (length d.building.rows)

part_two : {T : Tokens} {c d e : Course} (ts us : Tokens) → Fits c → Part T c d ts → Part T d e us → Part T c e (ts ++ us)
part_two {T} {c} {d} {e} ts us f a b = record {
  kept = kept_two a.kept b.kept;
  at = (let x = a.at in let y = b.at in let l = length-append ts us in omega arith);
  own = own_two (length c.building.rows) (length d.building.rows) (length e.building.rows)
      (own_still (length c.building.rows) (length d.building.rows) b.kept (omega arith) (let l = f.low in let o = a.kept.over in omega arith) a.own) b.own;
}

-- the mark of the innermost row that is open stays too
pub record Stands (es : Events) (ts : Tokens) : Type 0 where
  pub part : (T : Tokens) (c : Course) → Fits c → Reads T c.at ts → Part T c (run c es) ts
  pub still : (T : Tokens) (c : Course) → Fits c → Reads T c.at ts → mark_at (run c es).marks c.building.over ≡ mark_at c.marks c.building.over

-- it may change
pub record Loose (es : Events) (ts : Tokens) : Type 0 where
  pub part : (T : Tokens) (c : Course) → Fits c → Reads T c.at ts → Part T c (run c es) ts

-- its own token is found, of this kind
pub record Owns (t : Kind) (es : Events) (ts : Tokens) : Type 0 where
  pub part : (T : Tokens) (c : Course) → Fits c → Reads T c.at ts → Part T c (run c es) ts
  pub found : (T : Tokens) (c : Course) → Fits c → Reads T c.at ts → slice_get T (mark_at (run c es).marks c.building.over).own ≡ Some t

pub loose : {es : Events} {ts : Tokens} → Stands es ts → Loose es ts
loose s = record { part = s.part }

pub loosely : {t : Kind} {es : Events} {ts : Tokens} → Owns t es ts → Loose es ts
loosely s = record { part = s.part }

module _ {es fs : Events} {ts us : Tokens} (a : Loose es ts) (b : Loose fs us) (T : Tokens) (c : Course) (f : Fits c) (r : Reads T c.at (ts ++ us)) where
  first_part : Part T c (run c es) ts
  first_part = a.part T c f (reads_first ts us r)

  fits_there : Fits (run c es)
  fits_there = fits_still f first_part.kept

  reads_there : Reads T (run c es).at us
  reads_there = subst (λ k. Reads T k us) (sym first_part.at) (reads_next ts us r)

  both_parts : Part T c (run c (es ++ fs)) (ts ++ us)
  both_parts = subst (λ d. Part T c d (ts ++ us)) (sym (run_append c es fs)) (part_two ts us f first_part (b.part T (run c es) fits_there reads_there))

pub two_loose : {es fs : Events} {ts us : Tokens} → Loose es ts → Loose fs us → Loose (es ++ fs) (ts ++ us)
two_loose a b = record { part = both_parts a b }

pub two : {es fs : Events} {ts us : Tokens} → Stands es ts → Stands fs us → Stands (es ++ fs) (ts ++ us)
two {es} {fs} {ts} {us} a b = record {
  part = both_parts (loose a) (loose b);
  still =
      λ T c f r.
      let o = (first_part (loose a) (loose b) T c f r).kept.over in
      ap (λ d. mark_at d.marks c.building.over) (run_append c es fs)
      ∙ subst (λ k. mark_at (run (run c es) fs).marks k ≡ mark_at (run c es).marks k) o
      (b.still T (run c es) (fits_there (loose a) (loose b) T c f r) (reads_there (loose a) (loose b) T c f r))
      ∙ a.still T c f (reads_first ts us r);
}

-- the own token stands in the first part, or in the second
pub own_first : {t : Kind} {es fs : Events} {ts us : Tokens} → Owns t es ts → Stands fs us → Owns t (es ++ fs) (ts ++ us)
own_first {t} {es} {fs} {ts} {us} a b = record {
  part = both_parts (loosely a) (loose b);
  found =
      λ T c f r.
      let o = (first_part (loosely a) (loose b) T c f r).kept.over in
      ap (λ (m : Mark). slice_get T m.own)
      (ap (λ d. mark_at d.marks c.building.over) (run_append c es fs)
      ∙ subst (λ k. mark_at (run (run c es) fs).marks k ≡ mark_at (run c es).marks k) o
      (b.still T (run c es) (fits_there (loosely a) (loose b) T c f r) (reads_there (loosely a) (loose b) T c f r)))
      ∙ a.found T c f (reads_first ts us r);
}

pub own_next : {t : Kind} {es fs : Events} {ts us : Tokens} → Stands es ts → Owns t fs us → Owns t (es ++ fs) (ts ++ us)
own_next {t} {es} {fs} {ts} {us} a b = record {
  part = both_parts (loose a) (loosely b);
  found =
      λ T c f r.
      let o = (first_part (loose a) (loosely b) T c f r).kept.over in
      ap (λ d. slice_get T (mark_at d.marks c.building.over).own) (run_append c es fs)
      ∙ subst (λ k. slice_get T (mark_at (run (run c es) fs).marks k).own ≡ Some t) o
      (b.found T (run c es) (fits_there (loose a) (loosely b) T c f r) (reads_there (loose a) (loosely b) T c f r));
}

-- ---- tokens

pub kept_same : (c d : Course) → Fits c → d.building ≡ c.building → d.marks ≡ c.marks → Kept c d
kept_same c d f e m = record {
  over = ap (λ (b : State). b.over) e;
  many = ap length m ∙ f.many ∙ sym (ap (λ (b : State). length b.rows) e);
  grows = (let z = ap (λ (b : State). length b.rows) e in omega arith);
  rows = λ k lt. ap (λ (b : State). row b.rows k) e;
  marks = λ k lt ne. ap (λ all. mark_at all k) m;
}

no_rows : {T : Tokens} {p : Rows} {ms : List Mark} (n m : ℕ) → m ≤ n → AreOwn T p ms n m
no_rows n m le = record { own = λ k ge lt has. absurd (omega arith) }

pub nothing : Stands [] []
nothing = record {
  part = λ T c f r. record { kept = kept_same c c f refl refl; at = omega arith; own = no_rows (length c.building.rows) (length c.building.rows) (omega arith) };
  still = λ T c f r. refl;
}

pub pass : (n : ℕ) (ts : Tokens) → length ts ≡ n → Stands (Pass n ∷ []) ts
pass n ts e = record {
  part =
      λ T c f r. record { kept = kept_same c (step (Pass n) c) f refl refl; at = omega arith; own = no_rows (length c.building.rows) (length c.building.rows) (omega arith) };
  still = λ T c f r. refl;
}

module _ (c : Course) (f : Fits c) (token : ℕ) where
  abbrev taken : Mark
  taken = record (mark_at c.marks c.building.over) { own = token }

  kept_own : (at declared : ℕ) → Kept c (record { building = c.building; marks = with_own c.marks c.building.over token; at = at; declared = declared })
  kept_own at declared = record {
    over = refl;
    many = length-set c.marks c.building.over taken ∙ f.many;
    grows = omega arith;
    rows = λ k lt. refl;
    marks = λ k lt ne. set_elsewhere c.marks c.building.over token taken k ne;
  }

  taken_there : mark_at (with_own c.marks c.building.over token) c.building.over ≡ taken
  taken_there = get_or-set_same c.marks c.building.over taken (record { first = no_token; after = no_token; own = no_token }) (let e = f.many in let l = f.low in omega arith)

pub own : (t : Kind) → Owns t (Own ∷ []) (t ∷ [])
own t = record {
  part = λ T c f r. record { kept = kept_own c f c.at (c.at + 1) c.declared; at = refl; own = no_rows (length c.building.rows) (length c.building.rows) (omega arith) };
  found = λ T c f r. ap (λ (m : Mark). slice_get T m.own) (taken_there c f c.at) ∙ token_at t r;
}

pub declare : (t : Kind) → Owns t (Declare ∷ []) (t ∷ [])
declare t = record {
  part = λ T c f r. record { kept = kept_own c f c.at (c.at + 1) c.at; at = refl; own = no_rows (length c.building.rows) (length c.building.rows) (omega arith) };
  found = λ T c f r. ap (λ (m : Mark). slice_get T m.own) (taken_there c f c.at) ∙ token_at t r;
}

pub own_last : Loose (OwnLast ∷ []) []
own_last = record {
  part = λ T c f r. record { kept = kept_own c f (c.at - 1) c.at c.declared; at = omega arith; own = no_rows (length c.building.rows) (length c.building.rows) (omega arith) };
}

-- ---- a label opens and closes

end_length : (b : Bool) (ms : List Mark) (o t : ℕ) → length (if b then ms else with_end ms o t) ≡ length ms
end_length true ms o t = refl
end_length false ms o t = length-set ms o (record (mark_at ms o) { after = t })

end_own : (b : Bool) (ms : List Mark) (o t k : ℕ) → (mark_at (if b then ms else with_end ms o t) k).own ≡ (mark_at ms k).own
end_own true ms o t k = refl
end_own false ms o t k = stays ms o t (λ (m : Mark). m.own) (record (mark_at ms o) { after = t }) refl k

pub end_elsewhere : (b : Bool) (ms : List Mark) (o t k : ℕ) → (k ≡ o → ⊥) → mark_at (if b then ms else with_end ms o t) k ≡ mark_at ms k
end_elsewhere true ms o t k ne = refl
end_elsewhere false ms o t k ne = set_elsewhere ms o t (record (mark_at ms o) { after = t }) k ne

end_there : (b : Bool) (ms : List Mark) (o t : ℕ) → b ≡ false → o < length ms → (mark_at (if b then ms else with_end ms o t) o).after ≡ t
end_there true ms o t e lt = absurd (false≢true (sym e))
end_there false ms o t e lt = ap (λ (m : Mark). m.after) (get_or-set_same ms o (record (mark_at ms o) { after = t }) (record { first = no_token; after = no_token; own = no_token }) lt)

module _ (l : Label) (x : Text) (kids : Events) (ts : Tokens) (inside : Loose kids ts) (T : Tokens) (c : Course) (f : Fits c) (r : Reads T c.at ts) where
  abbrev size : ℕ
  size = length c.building.rows

  abbrev fresh : Row
  fresh = record { label = l; name = x; parent = c.building.over; end = size; previous = c.building.before }

  abbrev begun : Course
  begun = step (Open l x) c

  abbrev filled : Course
  filled = run begun kids

  abbrev ended : Course
  ended = step Close filled

  one_more : length begun.building.rows ≡ size + 1
  one_more = length-append c.building.rows (fresh ∷ [])

  fits_begun : Fits begun
  fits_begun = record {
    many = (let e = f.many in let l = length-append c.marks (new_mark l c ∷ []) in let m = one_more in omega arith);
    low = (let m = one_more in omega arith);
  }

  filling : Part T begun filled ts
  filling = inside.part T begun fits_begun r

  over_filled : filled.building.over ≡ size
  over_filled = filling.kept.over

  more_filled : size < length filled.building.rows
  more_filled = let g = filling.kept.grows in let m = one_more in omega arith

  filled_row : (k : ℕ) → k < size → row filled.building.rows k ≡ row c.building.rows k
  filled_row k lt =
      filling.kept.rows k (let m = one_more in omega arith)
      ∙ get_or-append c.building.rows (fresh ∷ []) (record { label = is.Skip; name = []; parent = k; end = k + 1; previous = k }) k lt

  filled_mark : (k : ℕ) → k < size → mark_at filled.marks k ≡ mark_at c.marks k
  filled_mark k lt =
      filling.kept.marks k (let m = one_more in omega arith) (λ e. let same : k ≡ size = e in absurd (omega arith))
      ∙ get_or-append c.marks (new_mark l c ∷ []) (record { first = no_token; after = no_token; own = no_token }) k (let e = f.many in omega arith)

  own_row : row filled.building.rows size ≡ fresh
  own_row =
      filling.kept.rows size (let m = one_more in omega arith)
      ∙ get_or-append_seam c.building.rows fresh [] (record { label = is.Skip; name = []; parent = size; end = size + 1; previous = size })

  abbrev closing : Row
  closing = record (row filled.building.rows filled.building.over) { end = length filled.building.rows }

  ended_size : length ended.building.rows ≡ length filled.building.rows
  ended_size = length-set filled.building.rows filled.building.over closing

  ended_row : (k : ℕ) → (k ≡ size → ⊥) → row ended.building.rows k ≡ row filled.building.rows k
  ended_row k ne = get_or-set_other filled.building.rows filled.building.over k closing (record { label = is.Skip; name = []; parent = k; end = k + 1; previous = k })
      (λ e. ne (e ∙ over_filled))

  ended_label : (k : ℕ) → label ended.building.rows k ≡ label filled.building.rows k
  ended_label k = row_stays filled.building.rows filled.building.over closing (λ (r : Row). r.label) refl k

  ended_name : (k : ℕ) → name ended.building.rows k ≡ name filled.building.rows k
  ended_name k = row_stays filled.building.rows filled.building.over closing (λ (r : Row). r.name) refl k

  abbrev hidden : Bool
  hidden = is_hidden (label filled.building.rows filled.building.over)

  ended_mark : (k : ℕ) → k < size → mark_at ended.marks k ≡ mark_at c.marks k
  ended_mark k lt = end_elsewhere hidden filled.marks filled.building.over filled.at k (λ e. let o = over_filled in absurd (omega arith)) ∙ filled_mark k lt

  ended_kept : Kept c ended
  ended_kept = record {
    over = ap (parent filled.building.rows) over_filled ∙ ap (λ (r : Row). r.parent) own_row;
    many = end_length hidden filled.marks filled.building.over filled.at ∙ filling.kept.many ∙ sym ended_size;
    grows = (let m = more_filled in let e = ended_size in omega arith);
    rows = λ k lt. ended_row k (λ e. absurd (omega arith)) ∙ filled_row k lt;
    marks = λ k lt ne. ended_mark k lt;
  }

  -- it ends behind the last of its rows and tokens
  ended_end : end ended.building.rows size ≡ length ended.building.rows
  ended_end =
      let o = filling.kept.over in
      let at : row ended.building.rows filled.building.over ≡ closing
      = get_or-set_same filled.building.rows filled.building.over closing
      (record { label = is.Skip; name = []; parent = filled.building.over; end = filled.building.over + 1; previous = filled.building.over })
      (let m = more_filled in omega arith) in
      subst (λ k. end ended.building.rows k ≡ length ended.building.rows) over_filled (ap (λ (r : Row). r.end) at ∙ sym ended_size)

  ended_after : is_hidden l ≡ false → (mark_at ended.marks size).after ≡ c.at + length ts
  ended_after seen =
      let o = filling.kept.over in
      let shown : hidden ≡ false = ap (λ k. is_hidden (label filled.building.rows k)) over_filled ∙ ap (λ (r : Row). is_hidden r.label) own_row ∙ seen in
      subst (λ k. (mark_at ended.marks k).after ≡ c.at + length ts) over_filled
      (end_there hidden filled.marks filled.building.over filled.at shown (let m = more_filled in let e = filling.kept.many in omega arith) ∙ filling.at)

  -- the row's own token, if it has one
  module _ (found : has_own l ≡ true → slice_get T (mark_at filled.marks size).own ≡ Some (own_kind l x)) where
    own_here : has_own (label filled.building.rows size) ≡ true → slice_get T (mark_at filled.marks size).own ≡ Some (own_kind (label filled.building.rows size) (name filled.building.rows size))
    own_here has = subst (λ (r : Row). has_own r.label ≡ true → slice_get T (mark_at filled.marks size).own ≡ Some (own_kind r.label r.name)) (sym own_row) found has

    own_in : (n : ℕ) → size ≤ n → n < length filled.building.rows → has_own (label filled.building.rows n) ≡ true
        → slice_get T (mark_at filled.marks n).own ≡ Some (own_kind (label filled.building.rows n) (name filled.building.rows n))
    own_in n ge lt has =
        let w : (size < n) ⊎ (n ≤ size) = grind arith in
        elim w [
          | inl above ↦ filling.own.own n (let m = one_more in omega arith) lt has
          | inr le ↦ (let same : size ≡ n = omega arith in
              subst (λ k. has_own (label filled.building.rows k) ≡ true → slice_get T (mark_at filled.marks k).own ≡ Some (own_kind (label filled.building.rows k) (name filled.building.rows k))) same own_here has)
        ]

    ended_own : AreOwn T ended.building.rows ended.marks size (length ended.building.rows)
    ended_own = record {
      own = λ n ge lt has.
          ap (slice_get T) (end_own hidden filled.marks filled.building.over filled.at n)
          ∙ own_in n ge (let e = ended_size in omega arith) (sym (ap has_own (ended_label n)) ∙ has)
          ∙ sym (ap (λ l. Some (own_kind l (name ended.building.rows n))) (ended_label n) ∙ ap (λ x. Some (own_kind (label filled.building.rows n) x)) (ended_name n));
    }

    ended_part : Part T c ended ts
    ended_part = record { kept = ended_kept; at = filling.at; own = ended_own }

    whole_part : Part T c (run c (named l x kids)) ts
    whole_part = subst (λ d. Part T c d ts) (sym (run_append begun kids (Close ∷ []))) ended_part

  whole_still : mark_at (run c (named l x kids)).marks c.building.over ≡ mark_at c.marks c.building.over
  whole_still = ap (λ d. mark_at d.marks c.building.over) (run_append begun kids (Close ∷ [])) ∙ ended_mark c.building.over f.low

-- a label without a token of its own, and one with
pub node : (l : Label) (x : Text) {kids : Events} {ts : Tokens} → has_own l ≡ false → Loose kids ts → Stands (named l x kids) ts
node l x {kids} {ts} none k = record {
  part = λ T c f r. whole_part l x kids ts k T c f r (λ has. absurd (false≢true (sym none ∙ has)));
  still = λ T c f r. whole_still l x kids ts k T c f r;
}

pub owner : (l : Label) (x : Text) {kids : Events} {ts : Tokens} → Owns (own_kind l x) kids ts → Stands (named l x kids) ts
owner l x {kids} {ts} k = record {
  part =
      λ T c f r.
      let here = loosely k in
      whole_part l x kids ts here T c f r (λ has. k.found T (begun l x kids ts here T c f r) (fits_begun l x kids ts here T c f r) r);
  still = λ T c f r. whole_still l x kids ts (loosely k) T c f r;
}

-- the same tokens, grouped otherwise
pub like : {es : Events} {ts us : Tokens} → Stands es ts → ts ≡ us → Stands es us
like {es} h e = subst (λ xs. Stands es xs) e h

pub passes : (n m : ℕ) (ts : Tokens) → length ts ≡ n + m → Stands (Pass n ∷ Pass m ∷ []) ts
passes n m ts e = record {
  part =
      λ T c f r. record {
        kept = kept_same c (step (Pass m) (step (Pass n) c)) f refl refl;
        at = omega arith;
        own = no_rows (length c.building.rows) (length c.building.rows) (omega arith);
      };
  still = λ T c f r. refl;
}

pub own_like : {a : Kind} {es : Events} {ts us : Tokens} → Owns a es ts → ts ≡ us → Owns a es us
own_like {a} {es} h e = subst (λ xs. Owns a es xs) e h

-- a label that is written: its row, and where its rows and its tokens end
pub record Ends (l : Label) (c d : Course) (ts : Tokens) : Type 0 where
  pub opens : label d.building.rows (length c.building.rows) ≡ l
  pub more : length c.building.rows < length d.building.rows
  pub rows : end d.building.rows (length c.building.rows) ≡ length d.building.rows
  pub after : (mark_at d.marks (length c.building.rows)).after ≡ c.at + length ts

pub node_ends : (l : Label) (x : Text) (kids : Events) (ts : Tokens) → is_hidden l ≡ false → Loose kids ts → (T : Tokens) (c : Course) → Fits c → Reads T c.at ts → Ends l c (run c (named l x kids)) ts
node_ends l x kids ts seen k T c f r =
    subst (λ d. Ends l c d ts) (sym (run_append (begun l x kids ts k T c f r) kids (Close ∷ [])))
    (record {
      opens = ended_label l x kids ts k T c f r (length c.building.rows) ∙ ap (λ (r : Row). r.label) (own_row l x kids ts k T c f r);
      more = (let m = more_filled l x kids ts k T c f r in let e = ended_size l x kids ts k T c f r in omega arith);
      rows = ended_end l x kids ts k T c f r;
      after = ended_after l x kids ts k T c f r seen;
    })
