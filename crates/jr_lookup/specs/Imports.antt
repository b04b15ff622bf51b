-- What single-type imports bring, under their units and the names of the types (JLS 7.5.1).
use Rattle.std.specs.Prelude.{◌≡◌, ℕ, ◌+◌, if◌then◌else◌, Option, Some, None}
use Rattle.jr_tree.specs.declared.label.ImportKind.TheVariants as importing
use Rattle.jr_tree.specs.Rows.{Rows, label, parent}
use Rattle.jr_defs.specs.Referents.{Table}
use Rattle.jr_defs.specs.Imports.{SingleImport}
use Rattle.jr_plain.specs.Search.{Lists}
use Rattle.jr_plain.specs.Imports.{is_import_label}
use Rattle.jr_plain.specs.Packages.{unit_of}
use Rattle.jr_plain.specs.Types.{referred_type}
use Rattle.jr_places.specs.declared.chains.Entry.{Entry}
use Rattle.jr_places.specs.Names.{name_row}
use Rattle.jr_places.specs.Packages.{same_some}
use Rattle.jr_members.specs.Keys.{entry_for}
use Rattle.jr_members.specs.Named.{under}
use Rattle.jr_lookup.specs.declared.imports.Imports as code

-- the type d, unless the unit that imports it declares it
abbrev pub foreign_entry : Rows → ℕ → ℕ → Option Entry
foreign_entry p u d = if same_some (unit_of p d) (Some u) then None else Some (entry_for u (name_row p d) d)

abbrev pub brought_type : Rows → ℕ → Option ℕ → Option Entry
brought_type p u None = None
brought_type p u (Some d) = foreign_entry p u d

-- what a row brings, if it is a single-type import
abbrev pub brought : Rows → Table → ℕ → Option Entry
brought p t i = if is_import_label importing.Single (label p i) then brought_type p (parent p i) (referred_type p (t (i + 1))) else None

-- a single-type import of the unit brings the type d, whose name has the number x
pub record IsBrought (p : Rows) (t : Table) (u x d : ℕ) : Type 0 where
  pub brings : SingleImport p t u d
  pub named : name_row p d ≡ x

-- what is under a unit and a name are the types that are brought there; several imports may bring one
pub record AreImports (p : Rows) (t : Table) (imports : code.Imports) : Type 0 where
  pub each : (u x : ℕ) → Lists (under imports.singles u x) (IsBrought p t u x)
