-- A change as it is put together.
use Rattle.std.specs.Prelude.{◌≡◌, ℕ, zero, suc, ◌+◌, ◌-◌, ◌^◌, if◌then◌else◌, List, [], ◌∷◌, ◌++◌, length, min, Option, Some, None, nat_lt, slice_get, slice_index_or}
use Rattle.jr_base.specs.declared.token.Span.{Span}
use Rattle.jr_tree.specs.Rows.{end}
use Rattle.jr_defs.specs.declared.program.UnitAt.{UnitAt}
use Rattle.jr_marks.specs.declared.marks.Marks.{Marks}
use Rattle.jr_marks.specs.Places.{unit_of}
use Rattle.jr_edits.specs.Place.{EditList, pushed}
use Rattle.jr_text.specs.Spans.{unit_bytes}
use Rattle.jr_change.specs.declared.change.Added.{Added}
use Rattle.jr_change.specs.declared.change.Target.{Target}
use Rattle.jr_change.specs.declared.change.Change.{Change}
use Rattle.jr_change.specs.declared.change.ChangedUnit.{ChangedUnit}
use Rattle.jr_change.specs.declared.change.Course.{Course}
use Rattle.jr_change.specs.declared.change.Naming.{Naming}
use Rattle.jr_change.specs.declared.change.RowRange.{RowRange}
use Rattle.jr_change.specs.declared.change.Segment.{Segment}
use Rattle.jr_change.specs.declared.change.Segment.TheVariants as segment
use Rattle.jr_change.specs.declared.change.UnitSource.TheVariants as source

-- the units and rows of a changed program so far
pub record Drafted : Type 0 where
  pub units : List ChangedUnit
  pub segments : List Segment
  pub namings : List Naming
  pub added : List Added
  -- how many rows there are
  pub count : ℕ

abbrev pub nothing : Drafted
nothing = record { units = []; segments = []; namings = []; added = []; count = 0 }

-- a sum of two numbers of 32 bits, or the greatest of them
abbrev pub plus : ℕ → ℕ → ℕ
plus a b = min (a + b) (2 ^ 32 - 1)

-- with so many rows more, which come from there
abbrev pub with_rows : Drafted → Segment → ℕ → Drafted
with_rows d segment count = record d { segments = d.segments ++ segment ∷ []; count = plus d.count count }

-- with copies of the rows from the first up to before the end
abbrev pub copied : Drafted → ℕ → ℕ → Drafted
copied d first end = if nat_lt first end then with_rows d (segment.Copy first end) (end - first) else d

-- with a copy of one row that has another label
abbrev pub turned : Drafted → ℕ → Drafted
turned d row = with_rows d (segment.Turned row) 1

-- with so many rows that come from no old row
abbrev pub glued : Drafted → ℕ → Drafted
glued d count = if nat_lt 0 count then with_rows d (segment.Glue count) count else d

-- with a row that comes from no old row and refers to this
abbrev pub referred : Drafted → Target → Option ℕ → Drafted
referred d target level = glued (record d { added = d.added ++ record { row = d.count; target = target; level = level } ∷ [] }) 1

-- with an identifier for old rows
abbrev pub with_naming : Drafted → Naming → Drafted
with_naming d naming = record d { namings = d.namings ++ naming ∷ [] }

abbrev pub with_unit : Drafted → ChangedUnit → Drafted
with_unit d unit = record d { units = d.units ++ unit ∷ [] }

-- the row of a unit; behind the last unit that behind the last row
abbrev pub unit_row : Marks → ℕ → ℕ
unit_row m unit = slice_index_or m.starts.now unit (end m.rows.now 0)

abbrev pub path_by : Option UnitAt → List ℕ
path_by None = []
path_by (Some unit) = unit.path

abbrev pub path_of : Marks → ℕ → List ℕ
path_of m unit = path_by (slice_get m.units.now unit)

-- the program and the prelude
abbrev pub begun : Marks → Drafted
begun m = copied nothing 0 (unit_row m 2)

-- with all rows of a unit
abbrev pub rows_kept : Marks → ℕ → Drafted → Drafted
rows_kept m unit d = copied d (unit_row m unit) (end m.rows.now (unit_row m unit))

-- with an old unit as it is, but not its rows
abbrev pub text_kept : Marks → ℕ → Drafted → Drafted
text_kept m unit d = with_unit d (record { path = path_of m unit; source = source.Kept unit })

-- the units of the workspace among the first ones, so many of them
abbrev pub texts_kept : Marks → ℕ → Drafted
texts_kept m zero = nothing
texts_kept m (suc unit) = let before = texts_kept m unit in if nat_lt unit 2 then before else text_kept m unit before

-- all units and rows as they are
abbrev pub unchanged : Marks → Drafted
unchanged m = copied (texts_kept m (length m.units.now)) 0 (end m.rows.now 0)

-- with an old unit as it is
abbrev pub kept : Marks → ℕ → Drafted → Drafted
kept m unit d = rows_kept m unit (text_kept m unit d)

abbrev pub no_edits : ℕ → EditList
no_edits length = record { text_len = length; edits = [] }

-- with an old unit without some of its rows and the bytes at which they stand
abbrev pub unit_without : Marks → RowRange → Span → ChangedUnit
unit_without m removed span = record {
  path = path_of m (unit_of m removed.first);
  source = source.Edited (unit_of m removed.first) (pushed (no_edits (length (unit_bytes m removed.first))) span []);
}

abbrev pub without : Marks → RowRange → Span → Drafted → Drafted
without m removed span d = let row = unit_row m (unit_of m removed.first) in
    copied (copied (with_unit d (unit_without m removed span)) row removed.first) removed.end (end m.rows.now row)

-- the change that was put together
pub record IsFinished (d : Drafted) (course : Course) (change : Change) : Type 0 where
  pub units : change.units.items ≡ d.units
  pub segments : change.segments.items ≡ d.segments
  pub namings : change.namings.items ≡ d.namings
  pub added : change.added.items ≡ d.added
  pub inner : change.inner ≡ None
  pub raised : change.raised ≡ None
  pub does : change.course ≡ course
