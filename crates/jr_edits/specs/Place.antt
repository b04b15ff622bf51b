-- Edits of a text: spans that share no byte, in the order of their places, each with the text that replaces it.
use Rattle.std.specs.Prelude.{◌≡◌, ◌⊎◌, ℕ, ◌<◌, ◌≤◌, nat_le, List, [], ◌∷◌, ◌++◌, length, drop, insert, Option, Some, None, slice_range, slice_index_or, if◌then◌else◌}
use Rattle.jr_base.specs.declared.token.Span.{Span}
use Rattle.jr_edits.specs.declared.edit.Edit.{Edit}

-- the edits of a text of so many bytes
pub record EditList : Type 0 where
  pub text_len : ℕ
  pub edits : List Edit

-- the span lies in a text of so many bytes
pub record IsInRange (text_len : ℕ) (span : Span) : Type 0 where
  pub rises : span.start ≤ span.end
  pub inside : span.end ≤ text_len

-- the spans share a byte, or one of both is an insertion strictly inside the other
pub record Overlaps (span : Span) (edit : Edit) : Type 0 where
  pub before_end : span.start < edit.span.end
  pub after_start : edit.span.start < span.end

abbrev pub HasOverlap : Span → List Edit → Type 0
HasOverlap span [] = ⊥
HasOverlap span (e ∷ es) = Overlaps span e ⊎ HasOverlap span es

-- each edit begins at or after the end of the one before, from a place on
abbrev pub AreApart : ℕ → ℕ → List Edit → Type 0
AreApart from text_len [] = from ≤ text_len
AreApart from text_len (e ∷ es) = (from ≤ e.span.start) × (e.span.start ≤ e.span.end) × AreApart e.span.end text_len es

-- the edits with one more, after those that end at or before its start: so insertions at one place stand in the order
-- of their pushes, before a replacement that begins there
abbrev pub put : Edit → List Edit → List Edit
put edit [] = edit ∷ []
put edit (e ∷ es) = if nat_le e.span.end edit.span.start then e ∷ put edit es else edit ∷ e ∷ es

abbrev pub pushed : EditList → Span → List ℕ → EditList
pushed old span text = record { text_len = old.text_len; edits = put (record { span = span; text = text }) old.edits }

-- where the edit goes
pub record IsSlot (span : Span) (edits : List Edit) (slot : ℕ) : Type 0 where
  pub within : slot ≤ length edits
  pub before : (k : ℕ) (d : Edit) → k < slot → (slice_index_or edits k d).span.end ≤ span.start
  pub after : (d : Edit) → slot < length edits → span.start < (slice_index_or edits slot d).span.end

-- a place at which the span stands apart from the edits
pub record IsFree (text_len : ℕ) (span : Span) (edits : List Edit) (slot : ℕ) : Type 0 where
  pub within : slot ≤ length edits
  pub overlaps_none : HasOverlap span edits → ⊥
  pub puts : (text : List ℕ) → insert edits slot (record { span = span; text = text }) ≡ put (record { span = span; text = text }) edits
  pub apart : (text : List ℕ) → AreApart 0 text_len (insert edits slot (record { span = span; text = text }))

abbrev pub IsFreeSlot : ℕ → Span → List Edit → Option ℕ → Type 0
IsFreeSlot text_len span edits None = HasOverlap span edits
IsFreeSlot text_len span edits (Some slot) = IsFree text_len span edits slot

-- the bytes from a place on, with each span replaced by its text
abbrev pub edited : List ℕ → ℕ → List Edit → List ℕ
edited bytes at [] = drop at bytes
edited bytes at (e ∷ es) = slice_range bytes at e.span.start ++ (e.text ++ edited bytes e.span.end es)
