-- Edits that stand apart.
use Rattle.std.proofs.Common.{inl, inr, ℕ, zero, suc, ◌<◌, ◌≤◌, List, [], ◌∷◌, length, get_or, arith}
use Rattle.std.specs.List.Sorted.{IsNonDecreasingBy}
use Rattle.jr_base.specs.declared.token.Span.{Span}
use Rattle.jr_edits.specs.declared.edit.Edit.{Edit}
use Rattle.jr_edits.specs.Place.{AreApart, Overlaps, HasOverlap, IsSlot}

pub from_inside : (from len : ℕ) (es : List Edit) → AreApart from len es → from ≤ len
from_inside from len [] apart = apart
from_inside from len (e ∷ es) apart = omega (arith, from_inside e.span.end len es apart.2)

end_above : (from len : ℕ) (es : List Edit) (i : ℕ) (d : Edit) → AreApart from len es → i < length es → from ≤ (get_or es i d).span.end
end_above from len [] i d apart inside = absurd (omega arith)
end_above from len (e ∷ es) zero d apart inside = omega arith
end_above from len (e ∷ es) (suc i) d apart inside = omega (arith, end_above e.span.end len es i d apart.2 (omega arith))

-- the ends rise along the edits
pub ends_rise : (from len : ℕ) (es : List Edit) → AreApart from len es → IsNonDecreasingBy (λ (e : Edit). e.span.end) es
ends_rise from len [] apart i j d le inside = absurd (omega arith)
ends_rise from len (e ∷ es) apart zero zero d le inside = omega arith
ends_rise from len (e ∷ es) apart zero (suc j) d le inside = end_above e.span.end len es j d apart.2 (omega arith)
ends_rise from len (e ∷ es) apart (suc i) zero d le inside = absurd (omega arith)
ends_rise from len (e ∷ es) apart (suc i) (suc j) d le inside = ends_rise e.span.end len es apart.2 i j d (omega arith) (omega arith)

none_after : (from len : ℕ) (es : List Edit) (span : Span) → AreApart from len es → span.end ≤ from → HasOverlap span es → ⊥
none_after from len [] span apart low overlap = overlap
none_after from len (e ∷ es) span apart low overlap =
    elim overlap [
      | inl here ↦ (let after = here.after_start in omega arith)
      | inr later ↦ none_after e.span.end len es span apart.2 (omega arith) later
    ]

-- a span that ends before the edit at its slot overlaps none
pub no_overlap : (from len : ℕ) (es : List Edit) (span : Span) (slot : ℕ) → AreApart from len es → IsSlot span es slot
    → ((d : Edit) → slot < length es → span.end ≤ (get_or es slot d).span.start) → HasOverlap span es → ⊥
no_overlap from len [] span slot apart at ends overlap = overlap
no_overlap from len (e ∷ es) span zero apart at ends overlap =
    let low : span.end ≤ e.span.start = ends e (omega arith) in
    elim overlap [
      | inl here ↦ (let after = here.after_start in omega arith)
      | inr later ↦ none_after e.span.end len es span apart.2 (omega arith) later
    ]
no_overlap from len (e ∷ es) span (suc slot) apart at ends overlap =
    let low : e.span.end ≤ span.start = at.before zero e (omega arith) in
    elim overlap [
      | inl here ↦ (let before = here.before_end in omega arith)
      | inr later ↦ no_overlap e.span.end len es span slot apart.2
          (record { within = (let within = at.within in omega arith); before = λ k d lt. at.before (suc k) d (omega arith); after = λ d lt. at.after d (omega arith) })
          (λ d lt. ends d (omega arith)) later
    ]

-- a span that reaches into the edit at its slot overlaps it
pub overlap_at : (es : List Edit) (span : Span) (slot : ℕ) (d : Edit) → slot < length es → Overlaps span (get_or es slot d) → HasOverlap span es
overlap_at [] span slot d inside overlap = absurd (omega arith)
overlap_at (e ∷ es) span zero d inside overlap = inl overlap
overlap_at (e ∷ es) span (suc slot) d inside overlap = inr (overlap_at es span slot d (omega arith) overlap)
