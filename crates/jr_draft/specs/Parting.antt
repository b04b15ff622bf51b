-- Types that leave their unit for one of their own.
use Rattle.std.specs.Prelude.{ℕ, Bool, ◌&&◌, if◌then◌else◌, List, [], ◌∷◌, ◌++◌, length, Option, None, nat_eq, nat_le}
use Rattle.jr_base.specs.declared.token.Span.{Span}
use Rattle.jr_tree.specs.Rows.{Rows, label, name, end}
use Rattle.jr_plain.specs.Search.{gathered}
use Rattle.jr_marks.specs.declared.marks.Marks.{Marks}
use Rattle.jr_marks.specs.Places.{unit_of}
use Rattle.jr_text.specs.Spans.{part, tokens_span, unit_bytes}
use Rattle.jr_change.specs.declared.change.RowRange.{RowRange}
use Rattle.jr_change.specs.declared.change.UnitSource.TheVariants as source
use Rattle.jr_draft.specs.declared.apart.Leaving.{Leaving}
use Rattle.jr_draft.specs.declared.packages.Head.{Head}
use Rattle.jr_draft.specs.Drafting.{Drafted, begun, copied, glued, kept, plus, turned, with_unit, without}
use Rattle.jr_draft.specs.Ordering.{order_with}
use Rattle.jr_draft.specs.Packages.{declaration_of, is_import, path_of_type, with_package_rows}

-- a type that leaves its unit: what stands before the types there, its row, whether that gets another label, the package and the text of the new unit, and the bytes that go
pub record Parted : Type 0 where
  pub head : Head
  pub row : ℕ
  pub is_turned : Bool
  pub named : List ℕ
  pub declaration : List ℕ
  pub span : Span

abbrev pub parted : Leaving → Parted
parted l = record { head = l.head; row = l.row; is_turned = l.is_turned; named = l.named.now; declaration = l.declaration.now; span = l.span }

-- the bytes of an import, with LF
abbrev pub import_line : Marks → Head → ℕ → List ℕ
import_line m head at = if nat_le head.imports at && is_import (label m.rows.now at) then part (unit_bytes m head.unit) (tokens_span m at) ++ 10 ∷ [] else []

abbrev pub import_lines : Marks → Head → List ℕ
import_lines m head = gathered head.types (import_line m head)

-- the text of the new unit: the package declaration, the imports of the old unit and the declaration, each with LF
abbrev pub text_apart : Marks → Parted → List ℕ
text_apart m parted = declaration_of parted.named ++ import_lines m parted.head ++ parted.declaration ++ 10 ∷ []

-- with the rows of the type, of which the first may be a copy with another label
abbrev pub with_type : Marks → Parted → Drafted → Drafted
with_type m parted d = let behind = end m.rows.now parted.row in
    if parted.is_turned then copied (turned d parted.row) (plus parted.row 1) behind else copied d parted.row behind

-- with the rows of the new unit: the imports are copies, and the unit and its package declaration come from no old row
abbrev pub with_rows_apart : Marks → Parted → Drafted → Drafted
with_rows_apart m parted d = with_type m parted (copied (with_package_rows parted.named None (glued d 1)) parted.head.imports parted.head.types)

abbrev pub with_apart : Marks → Parted → List ℕ → Drafted → Drafted
with_apart m parted path d = with_rows_apart m parted (with_unit d (record { path = path; source = source.New (text_apart m parted) }))

abbrev pub rows_parted : Marks → Parted → RowRange
rows_parted m parted = record { first = parted.row; end = end m.rows.now parted.row }

-- with a unit: the new one, the old one without the type, or one that stays
abbrev pub with_one : Marks → Parted → List ℕ → Drafted → ℕ → Drafted
with_one m parted path d unit = if nat_eq unit (length m.units.now) then with_apart m parted path d
    else if nat_eq unit (unit_of m parted.row) then without m (rows_parted m parted) parted.span d else kept m unit d

abbrev pub with_all : Marks → Parted → List ℕ → List ℕ → Drafted → Drafted
with_all m parted path [] d = d
with_all m parted path (unit ∷ units) d = with_all m parted path units (with_one m parted path d unit)

-- the file of a type in the folder of the package
abbrev pub own_path : Marks → Parted → List ℕ
own_path m parted = path_of_type parted.named (name m.rows.now parted.row)

-- all units in the order of their paths, where the new one is numbered behind the old ones
abbrev pub parted_of : Marks → Parted → Drafted
parted_of m parted = with_all m parted (own_path m parted) (order_with m (length m.units.now) (own_path m parted)) (begun m)
