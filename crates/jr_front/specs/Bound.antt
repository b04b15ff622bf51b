-- A program with the one binding of its rows, and what lookup reads.
use Rattle.std.specs.Prelude.{◌≡◌, map}
use Rattle.std.specs.List.{AllByRecursion}
use Rattle.jr_tree.specs.Rows.{Rows}
use Rattle.jr_tree.specs.Shape.{IsShaped}
use Rattle.jr_defs.specs.declared.program.Program.{Program}
use Rattle.jr_defs.specs.Program.{rows_of}
use Rattle.jr_defs.specs.Referents.{Table, entries}
use Rattle.jr_index.specs.Marking.{Marked, program_marks}
use Rattle.jr_marks.specs.Made.{HaveTokensApart}
use Rattle.jr_bind.specs.Confirmed.{IsProgramOf, IsBindingOf}
use Rattle.jr_front.specs.declared.workspace.Workspace.{Workspace}

abbrev pub rows_in : Workspace → Rows
rows_in w = w.index.value.rows

abbrev pub table_in : Workspace → Table
table_in w = entries w.bound.value.table.items

-- the index has the rows and marks of the program, whose units are shaped and have tokens that stand apart
pub record IsIndexed (program : Program) (index : Marked) : Type 0 where
  pub shaped : AllByRecursion IsShaped (map (λ u. u.unit) program.units)
  pub apart : HaveTokensApart program.units
  pub rows : index.rows ≡ rows_of program
  pub marks : index.marks ≡ program_marks (map (λ u. u.unit) program.units)

-- the rows are those of a program, with their places and scopes, and the table is their binding, with the supertypes, members, imports, constants and types of expressions under it
pub record IsBoundIn (w : Workspace) : Type 0 where
  pub of : IsProgramOf (rows_in w) w.places.value w.scopes.value
  pub binding : IsBindingOf (rows_in w) w.places.value w.bound.value
