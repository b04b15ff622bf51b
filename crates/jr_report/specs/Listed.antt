-- References to a declaration, and subtypes of a type.
use Rattle.std.specs.Prelude.{◌≡◌, ℕ, Bool, false, if◌then◌else◌, List, [], ◌∷◌, ◌++◌, Option, Some, None, nat_eq}
use Rattle.jr_tree.specs.Rows.{Rows}
use Rattle.jr_defs.specs.declared.referent.Referent.TheVariants.{Declared}
use Rattle.jr_defs.specs.Referents.{Table, entries}
use Rattle.jr_defs.specs.Declarations.{IsType, IsOccurrence}
use Rattle.jr_defs.specs.Supertypes.{Above}
use Rattle.jr_members.specs.declared.members.World.{World}

abbrev pub rows_in : World → Rows
rows_in world = world.under.rows.now

abbrev pub table_in : World → Table
table_in world = entries world.under.table.now

-- an occurrence whose target is d (JLS 6.5)
pub record IsReferenceTo (p : Rows) (t : Table) (d n : ℕ) : Type 0 where
  pub occurs : IsOccurrence p n
  pub level : Option ℕ
  pub target : t n ≡ Declared d level

-- a type strictly below c (JLS 4.10.2)
pub record IsSubtypeOf (p : Rows) (t : Table) (c n : ℕ) : Type 0 where
  pub type : IsType p n
  pub below : Above p t n c

-- ---- in code

-- a list, with one number more if it is such
abbrev pub with_such : Bool → ℕ → List ℕ → List ℕ
with_such is n all = if is then all ++ n ∷ [] else all

-- what is found is the row
abbrev pub is_this : ℕ → Option ℕ → Bool
is_this row None = false
is_this row (Some found) = nat_eq found row
