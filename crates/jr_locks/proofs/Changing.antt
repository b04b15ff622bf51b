-- The changed program, by what is told of its rows.
use Rattle.std.proofs.Common.{◌≡◌, refl, sym, ◌∙◌, ap, subst, ⊎_elim, arith, ℕ, ◌+◌, ◌<◌, ◌≤◌, Bool, List, [], ◌∷◌, length}
use Rattle.std.specs.Prelude.{zero, suc, if◌then◌else◌}
use Rattle.std.proofs.lemmas.Bool.{cases_eq, eq-eqb, ne_eqb}
use Rattle.std.proofs.lemmas.List.{ext_get_or}
use Rattle.std.proofs.lemmas.List.FromFn.{get_or-map-range_with_len, length-map-range_with_len}
use Rattle.jr_tree.specs.Rows.{Rows}
use Rattle.jr_defs.specs.declared.referent.Referent.{Referent}
use Rattle.jr_defs.specs.Referents.{Table, entries}
use Rattle.jr_change.specs.declared.change.Change.{Change}
use Rattle.jr_locks.specs.Origins.{no_row, origin_of}
use Rattle.jr_locks.specs.Locked.{every, AllLocked}
use Rattle.jr_locks.specs.Copies.{AreTold, AreAllTold, old_count}
use Rattle.jr_locks.specs.Copying.{AllCopies, AreNumbered, name_by, name_in}
use Rattle.jr_locks.specs.Changed.{IsChanged, AreCopies, origins_by, turned_by, rests_by, first_copy, copies_by}
use Rattle.jr_locks.specs.declared.moving.Copies.{Copies}
use Rattle.jr_locks.proofs.Told.{is_row}

-- ---- first copies

first_is : (xs : List ℕ) (d at c : ℕ) → c < length xs → origin_of xs c ≡ d → ((e : ℕ) → e < c → origin_of xs e ≡ d → ⊥) → first_copy xs d at ≡ at + c
first_is [] d at c lt is first = absurd (omega (arith, lt))
first_is (x ∷ xs) d at zero lt is first = ap (λ b. if b then at else first_copy xs d (at + 1)) (eq-eqb x d is) ∙ omega arith
first_is (x ∷ xs) d at (suc c) lt is first = ap (λ b. if b then at else first_copy xs d (at + 1)) (ne_eqb x d (first zero (omega arith)))
    ∙ first_is xs d (at + 1) c (omega (arith, lt)) is (λ e less same. first (suc e) (omega (arith, less)) same) ∙ omega arith

no_first : (xs : List ℕ) (d at : ℕ) → ((e : ℕ) → e < length xs → origin_of xs e ≡ d → ⊥) → first_copy xs d at ≡ no_row
no_first [] d at none = refl
no_first (x ∷ xs) d at none = ap (λ b. if b then at else first_copy xs d (at + 1)) (ne_eqb x d (none zero (omega arith)))
    ∙ no_first xs d (at + 1) (λ e lt same. none (suc e) (omega (arith, lt)) same)

copies_are : (origin copies : List ℕ) (old : ℕ) → old ≤ no_row → AreTold every origin old copies → copies ≡ copies_by origin old
copies_are origin copies old fits h =
    ext_get_or no_row copies (copies_by origin old) (h.count ∙ sym (length-map-range_with_len (λ d. first_copy origin d 0) 0 old)) (λ i lt. let c = h.count in each i (omega (arith, c, lt)))
  where
    each : (i : ℕ) → i < old → origin_of copies i ≡ origin_of (copies_by origin old) i
    each i lt = ⊎_elim
        (λ none. none ∙ sym (no_first origin i 0 (λ e less same. (h.whole i none).no e lt less refl same)))
        (λ some. let f = h.first i some in let e : origin_of copies i ≡ 0 + origin_of copies i = omega arith in
        e ∙ sym (first_is origin i 0 (origin_of copies i) (is_row origin (origin_of copies i) i f.copy (omega (arith, lt, fits))) f.copy (λ e less same. f.first e less refl same)))
        (cases_eq (origin_of copies i) no_row)
        ∙ sym (get_or-map-range_with_len (λ d. first_copy origin d 0) 0 old i i no_row lt (omega arith))

pub copies_by_told : (origin : List ℕ) (c : Copies) (old : ℕ) → old ≤ no_row → old_count c ≡ old → AreAllTold origin c → c.first.items ≡ copies_by origin old
copies_by_told origin c old fits size h = copies_are origin c.first.items old fits (subst (λ n. AreTold every origin n c.first.items) size h.first)

-- ---- the change

copies_so : (old : Rows) (change : Change) (rows : Rows) (origin numbers : List ℕ) (is_turned : List Bool) (behind : List ℕ) → origin ≡ origins_by change → is_turned ≡ turned_by change
    → behind ≡ rests_by change → AreNumbered change.namings.items (length old) numbers → AllCopies old (name_in change.namings.items numbers) origin is_turned behind rows (length rows)
    → AreCopies old change rows
copies_so old change rows origin numbers is_turned behind is also too named h =
    subst (λ from. AllCopies old (name_by change.namings.items) from (turned_by change) (rests_by change) rows (length rows)) is
    (subst (λ flags. AllCopies old (name_by change.namings.items) origin flags (rests_by change) rows (length rows)) also
    (subst (λ left. AllCopies old (name_by change.namings.items) origin is_turned left rows (length rows)) too
    (record {
      each = λ n lt real. let c = h.each n lt real in record { stood = c.stood; label_is = c.label_is; name_is = c.name_is ∙ named.each (origin_of origin n) _ c.stood; end_is = c.end_is };
    })))

pub changed_by : (old : Rows) (t : Table) (change : Change) (rows : Rows) (origin numbers : List ℕ) (is_turned : List Bool) (behind : List ℕ) (locks : List Referent) (count : ℕ)
    → count ≡ length old → origin ≡ origins_by change → is_turned ≡ turned_by change → behind ≡ rests_by change → length origin ≡ length rows
    → AreNumbered change.namings.items (length old) numbers → AllCopies old (name_in change.namings.items numbers) origin is_turned behind rows (length rows)
    → AllLocked change.inner origin count t change.raised change.added.items (entries locks) (length origin) → IsChanged old t change rows (entries locks)
changed_by old t change rows origin numbers is_turned behind locks count size is also too long named copied h = record {
  count = ap length (sym is) ∙ long;
  copied = copies_so old change rows origin numbers is_turned behind is also too named copied;
  locked = subst (λ n. AllLocked change.inner (origins_by change) n t change.raised change.added.items (entries locks) (length rows)) size
      (subst (λ n. AllLocked change.inner (origins_by change) count t change.raised change.added.items (entries locks) n) long
      (subst (λ from. AllLocked change.inner from count t change.raised change.added.items (entries locks) (length origin)) is h));
}
