-- The types that imports of single types name, and those that units declare, under units and names (JLS 7.5.1, 7.6).
use Rattle.std.specs.Prelude.{◌≡◌, ℕ, ◌<◌, ◌^◌, Bool, true, ◌||◌, if◌then◌else◌, Option, Some, None, length}
use Rattle.jr_tree.specs.declared.label.ImportKind.TheVariants as importing
use Rattle.jr_tree.specs.Rows.{Rows, label, parent}
use Rattle.jr_defs.specs.Referents.{Table, entries}
use Rattle.jr_plain.specs.Enclosing.{is_top_level}
use Rattle.jr_plain.specs.Imports.{is_import_label, is_import_of}
use Rattle.jr_places.specs.Names.{name_row}
use Rattle.jr_members.specs.Sources.{ArePlaced}
use Rattle.jr_members.specs.declared.members.World.{World}
use Rattle.jr_members.specs.Named.{under}
use Rattle.jr_members.specs.Worlds.{IsWorld}
use Rattle.jr_name_rules.specs.Found.{imported_type}
use Rattle.jr_name_faults.specs.declared.imports.Imports as code
use Rattle.jr_name_faults.specs.Twins.{has_other, AreTwins}

abbrev pub rows_of : World → Rows
rows_of world = world.under.rows.now

abbrev pub table_of : World → Table
table_of world = entries world.under.table.now

-- few rows, with their places
pub record IsPlacedWorld (world : World) : Type 0 where
  pub few : length (rows_of world) < 2 ^ 32
  pub placed : ArePlaced (rows_of world) world.under.places.now

-- few rows of a program with the prelude, whose types have under the table what they are to have
pub record IsTabledWorld (world : World) : Type 0 where
  pub few : length (rows_of world) < 2 ^ 32
  pub right : IsWorld (table_of world) world

-- the type that a single-type import names
abbrev pub single_type : Rows → Table → ℕ → Option ℕ
single_type p t i = if is_import_label importing.Single (label p i) then imported_type p t i else None

-- a top-level type among the first k rows, in the unit c, whose name is x
pub record IsTop (p : Rows) (k c x d : ℕ) : Type 0 where
  pub before : d < k
  pub top : is_top_level p d ≡ true
  pub inside : parent p d ≡ c
  pub named : name_row p d ≡ x

-- the type that a single-type import among the first n rows names, in the unit c, whose name is x
pub record IsSingle (p : Rows) (t : Table) (n c x d : ℕ) : Type 0 where
  pub import : ℕ
  pub before : import < n
  pub is_import : is_import_of p c importing.Single import ≡ true
  pub names : imported_type p t import ≡ Some d
  pub named : name_row p d ≡ x

-- the tables have the top-level types of the first k rows, and what the imports among the first n rows name
pub record AreImportsTo (p : Rows) (t : Table) (k n : ℕ) (imports : code.Imports) : Type 0 where
  pub rows_are : rows_of imports.world.now ≡ p
  pub table_is : table_of imports.world.now ≡ t
  pub few : length p < 2 ^ 32
  pub placed : ArePlaced p imports.world.now.under.places.now
  pub tops_are : AreTwins imports.tops.rows (IsTop p k)
  pub singles_are : AreTwins imports.singles.rows (IsSingle p t n)

-- the tables have another type of the unit and the name
abbrev pub has_other_type : code.Imports → ℕ → ℕ → ℕ → Bool
has_other_type imports c x d = has_other (under imports.singles.rows c x) d || has_other (under imports.tops.rows c x) d

-- of the unit of the import and the name of the type
abbrev pub has_clash : Rows → code.Imports → ℕ → ℕ → Bool
has_clash p imports i d = has_other_type imports (parent p i) (name_row p d) d
