-- The types that rows bring to their units by simple names, under units and names (JLS 7.5.1, 7.5.3, 7.6).
use Rattle.std.specs.Prelude.{◌≡◌, ◌⊎◌, ℕ, ◌<◌, Bool, ◌&&◌, List, [], ◌∷◌, length}
use Rattle.jr_tree.specs.Rows.{Rows}
use Rattle.jr_defs.specs.Referents.{Table}
use Rattle.jr_defs.specs.Rules.{BringsType, DeclaresTop}
use Rattle.jr_plain.specs.Declarations.{is_type}
use Rattle.jr_places.specs.declared.chains.Entry.{Entry}
use Rattle.jr_places.specs.Names.{name_row}
use Rattle.jr_members.specs.declared.members.World.{World}
use Rattle.jr_members.specs.Each.{AreBelow}
use Rattle.jr_members.specs.Named.{under}
use Rattle.jr_name_faults.specs.declared.statics.Statics as code
use Rattle.jr_name_faults.specs.Imports.{rows_of, table_of, IsTabledWorld}
use Rattle.jr_name_faults.specs.Twins.{has_other, with_twin, AreTwins}

-- the row j brings the type d to the unit u by its simple name: an import does, and the declaration itself
abbrev pub IsSource : Rows → Table → ℕ → ℕ → ℕ → Type 0
IsSource p t u j d = BringsType p t u j d ⊎ (DeclaresTop p u d × (j ≡ d))

-- a type that one of the first n rows brings to the unit c, whose name is x
pub record IsBrought (p : Rows) (t : Table) (n c x d : ℕ) : Type 0 where
  pub source : ℕ
  pub before : source < n
  pub brings : IsSource p t c source d
  pub named : name_row p d ≡ x

-- one of the first n rows, which brings a type to the unit c, whose name is x
pub record IsBringing (p : Rows) (t : Table) (n c x j : ℕ) : Type 0 where
  pub class : ℕ
  pub before : j < n
  pub brings : IsSource p t c j class
  pub named : name_row p class ≡ x

-- a row for each of some types, under the unit and the name of the type
abbrev pub with_rows : Rows → (ℕ → ℕ) → ℕ → List ℕ → List Entry → List Entry
with_rows p row u [] all = all
with_rows p row u (d ∷ more) all = with_rows p row u more (with_twin all u (name_row p d) (row d))

-- the target is reached once those of the rest are put there
pub record IsAdding (p : Rows) (row : ℕ → ℕ) (u : ℕ) (target : List Entry) (rest : List ℕ) (all : List Entry) : Type 0 where
  pub below : AreBelow (length p) rest
  pub is : with_rows p row u rest all ≡ target

-- the tables have what the first n rows bring
pub record AreStaticsTo (world : World) (n : ℕ) (statics : code.Statics) : Type 0 where
  pub world_is : statics.world.now ≡ world
  pub tabled : IsTabledWorld world
  pub types_are : AreTwins statics.types.rows (IsBrought (rows_of world) (table_of world) n)
  pub sources_are : AreTwins statics.sources.rows (IsBringing (rows_of world) (table_of world) n)

abbrev pub AreStatics : World → code.Statics → Type 0
AreStatics world statics = AreStaticsTo world (length (rows_of world)) statics

-- the tables have another type than d of the unit and the name, and another row than i that brings one
abbrev pub has_other_type : code.Statics → ℕ → ℕ → ℕ → ℕ → Bool
has_other_type statics c x i d = has_other (under statics.types.rows c x) d && has_other (under statics.sources.rows c x) i

-- d is a type, and that is so
abbrev pub is_clash : Rows → code.Statics → ℕ → ℕ → ℕ → ℕ → Bool
is_clash p statics c x i d = is_type p d && has_other_type statics c x i d
