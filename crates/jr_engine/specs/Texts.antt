-- The texts of a changed program, before and after its references are spelled anew.
use Rattle.std.specs.Prelude.{◌≡◌, ℕ, suc, ◌<◌, ◌^◌, List, [], ◌∷◌, ◌++◌, Option, Some, None, Ok, map, length, slice_get, bytes_eq, if◌then◌else◌}
use Rattle.std.specs.FinMap as files
use Rattle.std.specs.List.{AllByRecursion}
use Rattle.jr_base.specs.Files.{FileMap}
use Rattle.jr_tree.specs.Rows.{Rows}
use Rattle.jr_defs.specs.Program.{AreUnitsOf, prelude_files, rows_of}
use Rattle.jr_defs.specs.Referents.{Table}
use Rattle.jr_defs.specs.declared.program.Program.{Program}
use Rattle.jr_defs.specs.declared.program.UnitAt.{UnitAt}
use Rattle.jr_marks.specs.Made.{AreMade}
use Rattle.jr_marks.specs.declared.marks.Marks.{Marks}
use Rattle.jr_edits.specs.Place.{EditList, edited}
use Rattle.jr_text.specs.Spans.{bytes_by}
use Rattle.jr_shapes.specs.declared.spelling.Spelling.{Spelling}
use Rattle.jr_weave.specs.Weaving.{AreRespelled}
use Rattle.jr_read.specs.Reading.{ReadsAs}
use Rattle.jr_change.specs.declared.change.Change.{Change}
use Rattle.jr_change.specs.declared.change.ChangedUnit.{ChangedUnit}
use Rattle.jr_change.specs.declared.change.UnitSource.{UnitSource}
use Rattle.jr_change.specs.declared.change.UnitSource.TheVariants as source

-- the text of a unit of the changed program: that of an old unit, with the edits of the change, or a new one
abbrev pub changed_text : List UnitAt → UnitSource → List ℕ
changed_text units (source.Kept unit) = bytes_by (slice_get units unit)
changed_text units (source.Edited unit edits) = edited (bytes_by (slice_get units unit)) 0 edits.edits
changed_text units (source.New text) = text

-- the files of the changed program
abbrev pub changed_files : List UnitAt → List ChangedUnit → List (List ℕ × List ℕ)
changed_files units changed = map (λ c. (c.path, changed_text units c.source)) changed

-- the files of units with their edits
abbrev pub edited_files : List UnitAt → List EditList → List (List ℕ × List ℕ)
edited_files [] all = []
edited_files (unit ∷ rest) [] = []
edited_files (unit ∷ rest) (e ∷ all) = (unit.path, edited unit.bytes 0 e.edits) ∷ edited_files rest all

-- those behind the prelude
abbrev pub written_files : List UnitAt → List EditList → List (List ℕ × List ℕ)
written_files (lang ∷ text ∷ found) (none ∷ more ∷ all) = edited_files found all
written_files _ _ = []

-- none of them has 2 ^ 32 bytes
abbrev pub AreSmall : List (List ℕ × List ℕ) → Type 0
AreSmall texts = AllByRecursion (λ file. length file.1 < 2 ^ 32) texts

-- ---- two files of one path

-- the number of the first unit whose path the next one has too, behind one of this path and number
abbrev pub next_twice : List ℕ → ℕ → List (List ℕ × List ℕ) → Option ℕ
next_twice path number [] = None
next_twice path number (file ∷ rest) = if bytes_eq path file.0 then Some number else next_twice file.0 (suc number) rest

-- the number of the first unit whose path the next one has too; the two of the prelude stand before all
abbrev pub first_twice : List (List ℕ × List ℕ) → Option ℕ
first_twice [] = None
first_twice (file ∷ rest) = next_twice file.0 2 rest

-- ---- the texts of a change with its spellings

-- The old bytes with the edits of the change, and at each reference its spelling: the changed program is what the texts of the change read as, behind the prelude, and these texts are, path by path and in
-- this order, the bytes of its units with the edits of the spellings at their tokens. Two may have one path.
pub record AreTexts (old : List UnitAt) (change : Change) (rows : Rows) (locks : Table) (spellings : List Spelling) (texts : List (List ℕ × List ℕ)) : Type 0 where
  pub after : Program
  pub units : AreUnitsOf (prelude_files ++ changed_files old change.units.items) after.units
  pub are : rows ≡ rows_of after
  pub marks : Marks
  pub made : AreMade after marks
  pub edits : List EditList
  pub respelled : AreRespelled marks locks spellings edits
  pub written : texts ≡ written_files after.units edits

-- the files left are these texts, of the program of the files found
pub record HaveTexts (old : FileMap) (change : Change) (rows : Rows) (locks : Table) (spellings : List Spelling) (left : FileMap) : Type 0 where
  pub before : Program
  pub reads : ReadsAs old (Ok before)
  pub texts : AreTexts before.units change rows locks spellings (files.entries left)
