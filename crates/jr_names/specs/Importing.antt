-- Static imports that go along with a rename (JLS 7.5.3).
use Rattle.std.specs.Prelude.{◌≡◌, ℕ, ◌<◌, ◌^◌, Bool, true, false, not, ◌&&◌, ◌||◌, List, [], ◌∷◌, ◌++◌, All, length, bytes_eq}
use Rattle.jr_tree.specs.declared.label.Label.{Label}
use Rattle.jr_tree.specs.declared.label.Label.TheVariants as is
use Rattle.jr_tree.specs.declared.label.ImportKind.{ImportKind}
use Rattle.jr_tree.specs.declared.label.ImportKind.TheVariants as import
use Rattle.jr_tree.specs.Rows.{Rows, label, name, parent}
use Rattle.jr_defs.specs.Imports.{CanImport}
use Rattle.jr_defs.specs.Members.{MemberOf}
use Rattle.jr_defs.specs.Modifiers.{IsStatic}
use Rattle.jr_defs.specs.Referents.{Table, entries}
use Rattle.jr_plain.specs.Imports.{is_imported_by}
use Rattle.jr_plain.specs.Search.{all_below, all_such, any_below, has}
use Rattle.jr_places.specs.Names.{name_row}
use Rattle.jr_members.specs.declared.members.World.{World}
use Rattle.jr_members.specs.Each.{if_such}
use Rattle.jr_members.specs.Worlds.{IsWorld}

abbrev pub is_static_kind : ImportKind → Bool
is_static_kind import.StaticSingle = true
is_static_kind _ = false

abbrev pub is_single_static : Label → Bool
is_single_static (is.Import kind) = is_static_kind kind
is_single_static _ = false

-- a static import of the name of a declaration
abbrev pub is_import_of : Rows → ℕ → ℕ → Bool
is_import_of p d i = is_single_static (label p i) && bytes_eq (name p i) (name p d)

-- static imports of the name of a declaration
abbrev pub AreImportsOf : Rows → ℕ → List ℕ → Type 0
AreImportsOf p d imports = All (λ i. is_import_of p d i ≡ true) imports

-- ---- what an import brings

-- the import brings the member m to its unit
abbrev pub brings : Rows → Table → ℕ → ℕ → Bool
brings p t i m = is_imported_by p t (parent p i) i m

-- the import brings one of these declarations, and nothing else
abbrev pub brings_only : Rows → Table → List ℕ → ℕ → Bool
brings_only p t family i = any_below (length p) (brings p t i) && all_below (length p) (λ m. not (brings p t i m) || has family m)

-- the import goes along with the declaration and these, which get its name with it
abbrev pub goes_along : Rows → Table → ℕ → List ℕ → ℕ → Bool
goes_along p t d family i = is_import_of p d i && brings_only p t family i

-- the table of a world
abbrev pub table_in : World → Table
table_in world = entries world.under.table.now

-- the world has these rows, which are not too many, and is right under its table
pub record IsWorldOf (world : World) (p : Rows) : Type 0 where
  pub few : length p < 2 ^ 32
  pub right : IsWorld (table_in world) world
  pub rows : world.under.rows.now ≡ p

-- ---- as they are found

-- a static member of the name that the type has and that the unit may import
pub record IsImportable (p : Rows) (t : Table) (u x c m : ℕ) : Type 0 where
  pub member : MemberOf p t c m
  pub named : name_row p m ≡ x
  pub static : IsStatic p m
  pub reached : CanImport p u m

abbrev pub are_all_in : List ℕ → List ℕ → Bool
are_all_in [] others = true
are_all_in (x ∷ xs) others = has others x && are_all_in xs others

-- what is found of a row
pub record GoesAlong (world : World) (p : Rows) (d : ℕ) (family : List ℕ) (i : ℕ) (goes : Bool) : Type 0 where
  pub of_name : goes ≡ true → is_import_of p d i ≡ true
  pub exact : IsWorldOf world p → goes ≡ goes_along p (table_in world) d family i

-- the row stands behind what was there, if it goes along
pub record AddsImport (world : World) (p : Rows) (d : ℕ) (family : List ℕ) (i : ℕ) (old new : List ℕ) : Type 0 where
  pub goes : Bool
  pub is : GoesAlong world p d family i goes
  pub added : new ≡ old ++ if_such goes i

-- those of the first rows, so many of them, that go along, each once
pub record AreImportsBelow (world : World) (p : Rows) (d : ℕ) (family : List ℕ) (n : ℕ) (imports : List ℕ) : Type 0 where
  pub of_name : AreImportsOf p d imports
  pub exact : IsWorldOf world p → imports ≡ all_such n (goes_along p (table_in world) d family)

-- they stand behind what was there
pub record AddsImports (world : World) (p : Rows) (d : ℕ) (family : List ℕ) (n : ℕ) (old new : List ℕ) : Type 0 where
  pub imports : List ℕ
  pub are_imports : AreImportsBelow world p d family n imports
  pub added : new ≡ old ++ imports

-- the static imports that go along with a declaration and these, each once
abbrev pub AreImportsWith : World → Rows → ℕ → List ℕ → List ℕ → Type 0
AreImportsWith world p d family imports = AreImportsBelow world p d family (length p) imports
