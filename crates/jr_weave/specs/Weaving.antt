-- The text of each unit with its references written as they are spelled. By tokens: what a piece stands for is replaced, and every other byte stays.
use Rattle.std.specs.Prelude.{◌≡◌, ℕ, Bool, true, false, if◌then◌else◌, List, [], ◌∷◌, ◌++◌, length, reverse, Some, nat_eq, slice_get, slice_index_or, slice_set}
use Rattle.jr_tree.specs.Rows.{Rows}
use Rattle.jr_defs.specs.declared.program.UnitAt.{UnitAt}
use Rattle.jr_defs.specs.Referents.{Table}
use Rattle.jr_marks.specs.declared.marks.Marks.{Marks}
use Rattle.jr_shapes.specs.declared.spelling.Spelling.{Spelling}
use Rattle.jr_edits.specs.declared.edit.Edit.{Edit}
use Rattle.jr_edits.specs.Place.{EditList, put, pushed, edited}
use Rattle.jr_weave.specs.declared.piece.Piece.{Piece}
use Rattle.jr_weave.specs.declared.piece.Wording.{Wording}
use Rattle.jr_weave.specs.declared.piece.Wording.TheVariants as wording
use Rattle.jr_weave.specs.Pieces.{pieces}
use Rattle.jr_weave.specs.Wording.{text_of}

abbrev pub closes : Wording → Bool
closes (wording.Close has_two) = true
closes _ = false

-- what stands in place of something, and what opens, in the order of rows: what is outside comes first
abbrev pub openings : List Piece → List Piece
openings [] = []
openings (a ∷ rest) = if closes a.wording then openings rest else a ∷ openings rest

-- what closes
abbrev pub closings : List Piece → List Piece
closings [] = []
closings (a ∷ rest) = if closes a.wording then a ∷ closings rest else closings rest

-- then what closes, against that order: what is inside comes first
abbrev pub ordered : List Piece → List Piece
ordered all = openings all ++ closings (reverse all)

abbrev pub edit_of : Rows → Piece → Edit
edit_of p a = record { span = a.span; text = text_of p a.wording }

-- the edits of a unit with those of the pieces that stand in it
abbrev pub put_in : Rows → ℕ → List Piece → List Edit → List Edit
put_in p unit [] edits = edits
put_in p unit (a ∷ rest) edits = put_in p unit rest (if nat_eq a.unit unit then put (edit_of p a) edits else edits)

-- the edits of a unit by which its references are written so
abbrev pub edits_of : Marks → Table → List Spelling → ℕ → List Edit
edits_of m t c number = put_in m.rows.now number (ordered (pieces m t c)) []

-- these are the edits of each unit
pub record AreRespelled (m : Marks) (t : Table) (c : List Spelling) (all : List EditList) : Type 0 where
  pub count : length all ≡ length m.units.now
  pub each : (number : ℕ) (unit : UnitAt) → slice_get m.units.now number ≡ Some unit → slice_get all number ≡ Some (record { text_len = length unit.bytes; edits = edits_of m t c number })

-- the text of a unit whose references are written so: the bytes of each piece are replaced, and every other byte stays as it is
abbrev pub respelled : Marks → Table → List Spelling → ℕ → UnitAt → List ℕ
respelled m t c number unit = edited unit.bytes 0 (edits_of m t c number)

-- ---- what the code holds of it: the edits of all units

abbrev pub no_edits : UnitAt → EditList
no_edits unit = record { text_len = length unit.bytes; edits = [] }

-- those of a unit, if there are so many
abbrev pub edits_at : List EditList → ℕ → EditList
edits_at all number = slice_index_or all number (record { text_len = 0; edits = [] })

abbrev pub with_piece : Rows → Piece → List EditList → List EditList
with_piece p a all = slice_set all a.unit (pushed (edits_at all a.unit) a.span (text_of p a.wording))

abbrev pub with_pieces : Rows → List Piece → List EditList → List EditList
with_pieces p [] all = all
with_pieces p (a ∷ rest) all = with_pieces p rest (with_piece p a all)
