-- The law of order: the marks that an index of a program tells are ordered, where its prelude is there and the tokens of its units stand apart.
use Rattle.std.specs.Prelude.{◌≡◌, ℕ, ◌<◌, ◌≤◌, ◌^◌, List, length, map, slice_get}
use Rattle.std.specs.List.{AllByRecursion}
use Rattle.jr_tree.specs.Shape.{IsShaped}
use Rattle.jr_defs.specs.declared.program.UnitAt.{UnitAt}
use Rattle.jr_defs.specs.declared.program.Program.{Program}
use Rattle.jr_defs.specs.Program.{rows_of}
use Rattle.jr_index.specs.Marking.{program_marks}
use Rattle.jr_index.specs.NodeRows.{unit_rows}
use Rattle.jr_marks.specs.declared.marks.Marks.{Marks}
use Rattle.jr_marks.specs.Places.{AreApart, IsOrdered, tokens_by}

-- the units, rows and marks of the program
pub record AreMade (program : Program) (m : Marks) : Type 0 where
  pub units : m.units.now ≡ program.units
  pub rows : m.rows.now ≡ rows_of program
  pub marks : m.marks.now ≡ program_marks (map (λ u. u.unit) program.units)
  pub starts : m.starts.now ≡ unit_rows (rows_of program) (length (rows_of program))
  pub few : length m.rows.now < 2 ^ 32

-- the prelude is there, and the tokens of each unit stand apart and are not too many
pub record HaveTokensApart (units : List UnitAt) : Type 0 where
  pub prelude : 2 ≤ length units
  pub apart : (u : ℕ) → AreApart (tokens_by (slice_get units u))
  pub counts : (u : ℕ) → length (tokens_by (slice_get units u)) < 2 ^ 32

abbrev pub MarksAreOrdered : Type 0
MarksAreOrdered = (program : Program) (m : Marks) → AllByRecursion IsShaped (map (λ u. u.unit) program.units) → AreMade program m → HaveTokensApart program.units → IsOrdered m
