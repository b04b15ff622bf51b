-- Where rows stand in the bytes of their units.
use Rattle.std.specs.Prelude.{◌≡◌, ℕ, ◌-◌, ◌≤◌, ◌<◌, ◌&&◌, if◌then◌else◌, List, [], length, Option, Some, None, nat_eq, nat_le, slice_get, slice_range}
use Rattle.jr_base.specs.declared.token.Span.{Span}
use Rattle.jr_base.specs.declared.token.Token.{Token}
use Rattle.jr_defs.specs.declared.program.UnitAt.{UnitAt}
use Rattle.jr_marks.specs.declared.marks.Marks.{Marks}
use Rattle.jr_marks.specs.Places.{mark_of, unit_of, tokens_of}

abbrev pub bytes_by : Option UnitAt → List ℕ
bytes_by None = []
bytes_by (Some unit) = unit.bytes

-- the bytes of the unit of a row
abbrev pub unit_bytes : Marks → ℕ → List ℕ
unit_bytes m n = bytes_by (slice_get m.units.now (unit_of m n))

-- the bytes of a span; none where it does not stand in the text
abbrev pub part : List ℕ → Span → List ℕ
part bytes span = if nat_le span.start span.end && nat_le span.end (length bytes) then slice_range bytes span.start span.end else []

abbrev pub span_by : Option Token → Span
span_by None = record { start = 0; end = 0 }
span_by (Some t) = t.span

-- a token of the unit of a row, by its number
abbrev pub token_span : Marks → ℕ → ℕ → Span
token_span m n number = span_by (slice_get (tokens_of m (unit_of m n)) number)

abbrev pub own_span : Marks → ℕ → Span
own_span m n = token_span m n (mark_of m n).own

-- from the first token of a row to its last one
abbrev pub tokens_span : Marks → ℕ → Span
tokens_span m n = record { start = (token_span m n (mark_of m n).first).start; end = (token_span m n ((mark_of m n).after - 1)).end }

-- where the token before one ends
abbrev pub end_before : Marks → ℕ → ℕ → ℕ
end_before m n number = if nat_eq number 0 then 0 else (token_span m n (number - 1)).end

-- the gap before the first token of a row
abbrev pub gap_before : Marks → ℕ → Span
gap_before m n = record { start = end_before m n (mark_of m n).first; end = (token_span m n (mark_of m n).first).start }

-- what a declaration takes along: from somewhere in the gap before its first token to the end of its last one
pub record IsExtent (m : Marks) (n : ℕ) (span : Span) : Type 0 where
  pub behind : (gap_before m n).start ≤ span.start
  pub before : (gap_before m n).start ≤ (gap_before m n).end → span.start ≤ (gap_before m n).end
  pub last : span.end ≡ (tokens_span m n).end
