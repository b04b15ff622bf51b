-- The edits with one more.
use Rattle.std.proofs.Common.{◌≡◌, ℕ, zero, suc, ◌<◌, ◌≤◌, true, false, List, [], ◌∷◌, length, get_or, refl, ap, ◌∙◌, subst, arith}
use Rattle.std.proofs.lemmas.Bool.Decides.{nat_tests}
use Rattle.std.proofs.lemmas.List.{get_or_default}
use Rattle.std.specs.Prelude.{nat_le, nat_lt, insert}
use Rattle.jr_edits.specs.declared.edit.Edit.{Edit}
use Rattle.jr_base.specs.declared.token.Span.{Span}
use Rattle.jr_edits.specs.Place.{AreApart, IsInRange, Overlaps, HasOverlap, IsSlot, IsFree, put}
use Rattle.jr_edits.proofs.Apart.{no_overlap, overlap_at}

test_true : (m n : ℕ) → m ≤ n → nat_le m n ≡ true
test_true m n le = grind (arith, nat_tests)

test_false : (m n : ℕ) → n < m → nat_le m n ≡ false
test_false m n lt = grind (arith, nat_tests)

later : (e : Edit) (es : List Edit) (edit : Edit) (slot : ℕ) → IsSlot edit.span (e ∷ es) (suc slot) → IsSlot edit.span es slot
later e es edit slot at = record {
  within = (let within = at.within in omega arith);
  before = λ k d lt. at.before (suc k) d (omega arith);
  after = λ d lt. at.after d (omega arith);
}

pub put-insert : (es : List Edit) (edit : Edit) (slot : ℕ) → IsSlot edit.span es slot → insert es slot edit ≡ put edit es
put-insert [] edit zero at = refl
put-insert [] edit (suc slot) at = (let within = at.within in absurd (omega arith))
put-insert (e ∷ es) edit zero at = rw (test_false e.span.end edit.span.start (at.after e (omega arith))) refl
put-insert (e ∷ es) edit (suc slot) at =
    rw (test_true e.span.end edit.span.start (at.before zero e (omega arith))) (ap (λ xs. e ∷ xs) (put-insert es edit slot (later e es edit slot at)))

-- the edits with one more stand apart
pub apart-insert : (from len : ℕ) (es : List Edit) (edit : Edit) (slot : ℕ) → AreApart from len es → from ≤ edit.span.start → edit.span.start ≤ edit.span.end
    → edit.span.end ≤ len → IsSlot edit.span es slot → ((d : Edit) → slot < length es → edit.span.end ≤ (get_or es slot d).span.start)
    → AreApart from len (insert es slot edit)
apart-insert from len [] edit zero apart low rises high at ends = (low, rises, high)
apart-insert from len [] edit (suc slot) apart low rises high at ends = (let within = at.within in absurd (omega arith))
apart-insert from len (e ∷ es) edit zero apart low rises high at ends = (low, rises, (ends e (omega arith), apart.1, apart.2))
apart-insert from len (e ∷ es) edit (suc slot) apart low rises high at ends =
    (apart.0, apart.1, apart-insert e.span.end len es edit slot apart.2 (at.before zero e (omega arith)) rises high (later e es edit slot at) (λ d lt. ends d (omega arith)))

pub free : (len : ℕ) (es : List Edit) (span : Span) (slot : ℕ) → AreApart 0 len es → IsInRange len span → IsSlot span es slot
    → ((d : Edit) → slot < length es → span.end ≤ (get_or es slot d).span.start) → IsFree len span es slot
free len es span slot apart inside at ends =
    let rises = inside.rises in
    let high = inside.inside in
    record {
      within = at.within;
      overlaps_none = no_overlap 0 len es span slot apart at ends;
      puts = λ text. put-insert es (record { span = span; text = text }) slot at;
      apart = λ text. apart-insert 0 len es (record { span = span; text = text }) slot apart (omega arith) rises high at ends;
    }

within_at : (m n : ℕ) → true ≡ nat_lt m n → m < n
within_at m n e = grind (arith, nat_tests)

past_at : (m n : ℕ) → false ≡ nat_lt m n → n ≤ m
past_at m n e = grind (arith, nat_tests)

-- the span reaches into the next edit
pub reaches : (es : List Edit) (span : Span) (slot : ℕ) (next : Edit) → IsSlot span es slot → true ≡ nat_lt slot (length es)
    → next ≡ get_or es slot next → next.span.start < span.end → HasOverlap span es
reaches es span slot next at inside is low =
    let within = within_at slot (length es) inside in
    let overlap : Overlaps span (get_or es slot next) = record { before_end = at.after next within; after_start = rw (← is) low } in
    overlap_at es span slot next within overlap

-- the span ends before the next edit
pub free_before : (len : ℕ) (es : List Edit) (span : Span) (slot : ℕ) (next : Edit) → AreApart 0 len es → IsInRange len span → IsSlot span es slot
    → true ≡ nat_lt slot (length es) → next ≡ get_or es slot next → span.end ≤ next.span.start → IsFree len span es slot
free_before len es span slot next apart range at inside is high =
    free len es span slot apart range at
    (λ d within. subst (λ (e : Edit). span.end ≤ e.span.start) (is ∙ get_or_default es slot next d within) high)

-- no edit is next
pub free_last : (len : ℕ) (es : List Edit) (span : Span) (slot : ℕ) → AreApart 0 len es → IsInRange len span → IsSlot span es slot
    → false ≡ nat_lt slot (length es) → IsFree len span es slot
free_last len es span slot apart range at outside =
    let past = past_at slot (length es) outside in
    free len es span slot apart range at (λ d within. absurd (omega arith))
