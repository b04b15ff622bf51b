-- The declaration for which a request asks (JLS 6.1).
use Rattle.std.specs.Prelude.{ℕ, Bool, false, ◌&&◌, if◌then◌else◌, List, length, Option, Some, None, Result, Ok, Err, bytes_eq, nat_le, nat_lt, slice_get, slice_index_or}
use Rattle.jr_tree.specs.declared.label.Role.{Role}
use Rattle.jr_tree.specs.declared.label.Role.TheVariants as role
use Rattle.jr_tree.specs.Rows.{Rows, role_at}
use Rattle.jr_plain.specs.Search.{first_below}
use Rattle.jr_plain.specs.Enclosing.{constructed_class}
use Rattle.jr_defs.specs.declared.program.UnitAt.{UnitAt}
use Rattle.jr_defs.specs.declared.referent.Referent.{Referent}
use Rattle.jr_defs.specs.declared.referent.Referent.TheVariants.{Unbound, Declared}
use Rattle.jr_marks.specs.declared.marks.Marks.{Marks}
use Rattle.jr_marks.specs.Places.{unit_of, row_at_offset}
use Rattle.jr_change.specs.declared.project.Project.{Project}
use Rattle.jr_change.specs.declared.reason.ChangeFault.{ChangeFault}
use Rattle.jr_change.specs.declared.reason.ChangeFault.TheVariants.{Bad}
use Rattle.jr_change.specs.declared.reason.Reason.TheVariants as reason

-- the table of what the rows of the program refer to
abbrev pub table_of : Project → List Referent
table_of old = old.view.sight.world.under.table.now

abbrev pub rows_of : Project → Rows
rows_of old = old.marks.rows.now

abbrev pub declared_by : Referent → Option ℕ
declared_by (Declared d level) = Some d
declared_by _ = None

-- the declaration to which a row refers
abbrev pub refers_to : Project → ℕ → Option ℕ
refers_to old n = declared_by (slice_index_or (table_of old) n Unbound)

-- ---- files

abbrev pub has_path : List ℕ → Option UnitAt → Bool
has_path path None = false
has_path path (Some unit) = bytes_eq unit.path path

-- the unit of a file of the workspace, which stands behind the prelude
abbrev pub unit_of_file : Marks → List ℕ → Option ℕ
unit_of_file m path = first_below (length m.units.now) (λ unit. nat_le 2 unit && has_path path (slice_get m.units.now unit))

-- ---- declarations

-- a constructor stands for its class
abbrev pub meant_by : Role → Rows → ℕ → Option ℕ
meant_by role.Nothing p d = None
meant_by role.Constructor p d = constructed_class p d
meant_by _ p d = Some d

abbrev pub meant : Rows → Option ℕ → Option ℕ
meant p None = None
meant p (Some d) = meant_by (role_at p d) p d

-- the declaration that a row is, or the one to which it refers
abbrev pub referent_by : Role → Project → ℕ → Option ℕ
referent_by role.Nothing old n = refers_to old n
referent_by _ old n = Some n

abbrev pub declaration_at : Project → ℕ → Option ℕ
declaration_at old n = meant (rows_of old) (referent_by (role_at (rows_of old) n) old n)

abbrev pub named_by : Project → Option ℕ → Result (Option ℕ) ChangeFault
named_by old None = Err (Bad reason.NoIdentifier)
named_by old (Some n) = Ok (declaration_at old n)

abbrev pub named_in : Project → Option ℕ → ℕ → Result (Option ℕ) ChangeFault
named_in old None at = Err (Bad reason.NoFile)
named_in old (Some unit) at = named_by old (row_at_offset old.marks unit at)

-- the declaration whose name, or the name of an occurrence of which, holds the offset of a file
abbrev pub named_at : Project → List ℕ → ℕ → Result (Option ℕ) ChangeFault
named_at old file at = named_in old (unit_of_file old.marks file) at

abbrev pub is_in_prelude : Marks → ℕ → Bool
is_in_prelude m n = nat_lt (unit_of m n) 2

-- declarations of the prelude are not changed
abbrev pub not_in_prelude : Project → Result (Option ℕ) ChangeFault → Result (Option ℕ) ChangeFault
not_in_prelude old (Err fault) = Err fault
not_in_prelude old (Ok None) = Ok None
not_in_prelude old (Ok (Some d)) = if is_in_prelude old.marks d then Err (Bad reason.InPrelude) else Ok (Some d)

abbrev pub asked : Project → List ℕ → ℕ → Result (Option ℕ) ChangeFault
asked old file at = not_in_prelude old (named_at old file at)
