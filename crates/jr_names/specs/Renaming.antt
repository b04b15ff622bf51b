-- What a request to give a declaration another name comes to (JLS 6.1, 6.3, 7.5.3, 8.4.8, 8.8).
use Rattle.std.specs.Prelude.{◌≡◌, ◌⊎◌, ℕ, Bool, true, false, ◌&&◌, ◌||◌, if◌then◌else◌, List, [], ◌∷◌, ◌++◌, length, Option, Some, None, Result, Ok, Err, codes, bytes_eq, nat_eq, nat_le, nat_lt}
use Rattle.std.specs.List.Sorted.{IsPermutation, IsNonDecreasing}
use Rattle.jr_base.specs.Identifiers.{IsIdentifier}
use Rattle.jr_tree.specs.declared.label.Label.{Label}
use Rattle.jr_tree.specs.declared.label.Label.TheVariants as is
use Rattle.jr_tree.specs.declared.label.Role.TheVariants as role
use Rattle.jr_tree.specs.Rows.{Rows, label, name, end, role_at}
use Rattle.jr_defs.specs.Referents.{Table}
use Rattle.jr_plain.specs.Enclosing.{is_constructor_of, is_top_level}
use Rattle.jr_plain.specs.Search.{all_such}
use Rattle.jr_dispatch.specs.Families as families
use Rattle.jr_dispatch.specs.Methods.{IsWholeWorld}
use Rattle.jr_members.specs.declared.members.World.{World}
use Rattle.jr_marks.specs.declared.marks.Marks.{Marks}
use Rattle.jr_marks.specs.Places.{unit_of}
use Rattle.jr_edits.specs.Place.{EditList, pushed}
use Rattle.jr_text.specs.Spans.{own_span, unit_bytes}
use Rattle.jr_change.specs.declared.change.Change.{Change}
use Rattle.jr_change.specs.declared.change.ChangedUnit.{ChangedUnit}
use Rattle.jr_change.specs.declared.change.Course.TheVariants as course
use Rattle.jr_change.specs.declared.change.Naming.{Naming}
use Rattle.jr_change.specs.declared.change.UnitSource.{UnitSource}
use Rattle.jr_change.specs.declared.change.UnitSource.TheVariants as source
use Rattle.jr_change.specs.declared.project.Project.{Project}
use Rattle.jr_change.specs.declared.reason.ChangeFault.{ChangeFault}
use Rattle.jr_change.specs.declared.reason.ChangeFault.TheVariants as fault
use Rattle.jr_change.specs.declared.reason.Reason.{Reason}
use Rattle.jr_change.specs.declared.reason.Reason.TheVariants as reason
use Rattle.jr_draft.specs.Asking.{asked, is_in_prelude}
use Rattle.jr_draft.specs.Drafting.{Drafted, IsFinished, begun, no_edits, path_of, rows_kept, unchanged, unit_row, with_naming, with_unit}
use Rattle.jr_draft.specs.Ordering.{order_with}
use Rattle.jr_names.specs.Importing.{AreImportsWith}

-- ---- what gets the name

-- what is renamed together with a declaration: itself alone, where it is no method; of a method its family (JLS 8.4.8.1), by any table under which the world of the program is whole
pub record IsOfDeclaration (old : Project) (d : ℕ) (family : List ℕ) : Type 0 where
  pub alone : (role_at old.marks.rows.now d ≡ role.Method → ⊥) → family ≡ d ∷ []
  pub together : (t : Table) → IsWholeWorld t old.view.sight.world → old.view.sight.world.under.rows.now ≡ old.marks.rows.now → role_at old.marks.rows.now d ≡ role.Method
      → families.IsFamilyOf old.marks.rows.now t d family

-- the declarations that are renamed together with the one that is asked for; none, where there is none
abbrev pub IsFamilyOf : Project → Option ℕ → List ℕ → Type 0
IsFamilyOf old None family = family ≡ []
IsFamilyOf old (Some d) family = IsOfDeclaration old d family

-- one of them stands in the prelude
abbrev pub reaches_prelude : Marks → List ℕ → Bool
reaches_prelude m [] = false
reaches_prelude m (d ∷ ds) = is_in_prelude m d || reaches_prelude m ds

abbrev pub is_written_label : Label → Bool
is_written_label (is.Constructor modifiers) = true
is_written_label _ = false

-- a constructor that is written
abbrev pub is_written : Rows → ℕ → Bool
is_written p k = is_written_label (label p k)

-- a constructor of the class that is written (JLS 8.8): its name is that of the class
abbrev pub has_class_name : Rows → ℕ → ℕ → Bool
has_class_name p d k = is_written p k && is_constructor_of p d k

abbrev pub constructor_at : Rows → ℕ → ℕ → List ℕ
constructor_at p d k = if has_class_name p d k then k ∷ [] else []

-- the constructors of a class that are written
abbrev pub constructors_of : Rows → ℕ → List ℕ
constructors_of p d = all_such (length p) (has_class_name p d)

-- the rows that get the name of a declaration, as they rise: the static imports that bring nothing but the family, the constructors of a class and the family
pub record IsNamedWith (old : Project) (d : ℕ) (family rows : List ℕ) : Type 0 where
  pub imports : List ℕ
  pub are_imports : AreImportsWith old.view.sight.world old.marks.rows.now d family imports
  pub moved : IsPermutation (imports ++ constructors_of old.marks.rows.now d ++ family) rows
  pub rising : IsNonDecreasing rows

-- behind what was there stand those imports, the constructors and the family
pub record AddsNamed (world : World) (p : Rows) (d : ℕ) (family old new : List ℕ) : Type 0 where
  pub imports : List ℕ
  pub are_imports : AreImportsWith world p d family imports
  pub added : new ≡ old ++ imports ++ constructors_of p d ++ family

-- ---- paths

-- nothing, or what ends in a slash
abbrev pub IsFolder : List ℕ → Type 0
IsFolder folder = (folder ≡ []) ⊎ ((front : List ℕ) × (folder ≡ front ++ 47 ∷ []))

-- the file has the name of a type, in this folder
pub record IsFileOf (path folder type : List ℕ) : Type 0 where
  pub path_is : path ≡ folder ++ (type ++ codes ".java")
  pub whole : IsFolder folder

-- the path of the unit of a declaration that gets a name: a top-level type takes along the file that has its name
pub data IsPathWith (m : Marks) (d : ℕ) (to : List ℕ) : List ℕ → Type 0 where
  inside : is_top_level m.rows.now d ≡ false → IsPathWith m d to (path_of m (unit_of m d))
  along : {folder : List ℕ} → is_top_level m.rows.now d ≡ true → IsFileOf (path_of m (unit_of m d)) folder (name m.rows.now d) → IsPathWith m d to (folder ++ (to ++ codes ".java"))
  other : is_top_level m.rows.now d ≡ true → ((folder : List ℕ) → IsFileOf (path_of m (unit_of m d)) folder (name m.rows.now d) → ⊥) → IsPathWith m d to (path_of m (unit_of m d))

-- ---- units

-- the row stands in the unit
abbrev pub stands_in : Marks → ℕ → ℕ → Bool
stands_in m unit n = nat_le (unit_row m unit) n && nat_lt n (end m.rows.now (unit_row m unit))

abbrev pub has_some : Marks → ℕ → List ℕ → Bool
has_some m unit [] = false
has_some m unit (n ∷ ns) = stands_in m unit n || has_some m unit ns

-- the identifier of the row becomes the new one, if it stands in the unit
abbrev pub renamed_at : Marks → List ℕ → ℕ → ℕ → EditList → EditList
renamed_at m to unit n edits = if stands_in m unit n then pushed edits (own_span m n) to else edits

abbrev pub renamed_in : Marks → List ℕ → ℕ → List ℕ → EditList → EditList
renamed_in m to unit [] edits = edits
renamed_in m to unit (n ∷ ns) edits = renamed_in m to unit ns (renamed_at m to unit n edits)

-- the edits of a unit in which the identifiers of these rows become the new one
abbrev pub edited_in : Marks → List ℕ → ℕ → List ℕ → EditList
edited_in m to unit rows = renamed_in m to unit rows (no_edits (length (unit_bytes m (unit_row m unit))))

-- the text of a unit: as it is, where none of the rows stands in it
abbrev pub source_of : Marks → List ℕ → ℕ → List ℕ → UnitSource
source_of m to unit rows = if has_some m unit rows then source.Edited unit (edited_in m to unit rows) else source.Kept unit

-- one unit has another path
abbrev pub path_with : Marks → ℕ → List ℕ → ℕ → List ℕ
path_with m moved path unit = if nat_eq unit moved then path else path_of m unit

abbrev pub renamed_unit : Marks → ℕ → List ℕ → List ℕ → List ℕ → ℕ → ChangedUnit
renamed_unit m moved path to rows unit = record { path = path_with m moved path unit; source = source_of m to unit rows }

abbrev pub with_one : Marks → ℕ → List ℕ → List ℕ → List ℕ → Drafted → ℕ → Drafted
with_one m moved path to rows d unit = rows_kept m unit (with_unit d (renamed_unit m moved path to rows unit))

abbrev pub with_all : Marks → ℕ → List ℕ → List ℕ → List ℕ → List ℕ → Drafted → Drafted
with_all m moved path to rows [] d = d
with_all m moved path to rows (unit ∷ units) d = with_all m moved path to rows units (with_one m moved path to rows d unit)

-- ---- the change

-- all units in the order of their paths, one at its new path, with the new name at these rows; all rows are copies
abbrev pub renamed : Marks → ℕ → List ℕ → List ℕ → List ℕ → Drafted
renamed m moved path to rows = with_all m moved path to rows (order_with m moved path) (begun m)

-- the change in which these rows have the name, and all else is as it was
pub record IsRenamed (m : Marks) (d : ℕ) (to rows : List ℕ) (made : Change) : Type 0 where
  pub path : List ℕ
  pub is_path : IsPathWith m d to path
  pub naming : Naming
  pub name_is : naming.name ≡ to
  pub named : naming.rows.items ≡ rows
  pub finished : IsFinished (with_naming (renamed m (unit_of m d) path to rows) naming) course.Same made

-- the same, where these rows are those that get the name with the declaration
pub record IsNewName (old : Project) (d : ℕ) (family to : List ℕ) (made : Change) : Type 0 where
  pub rows : List ℕ
  pub named : IsNamedWith old d family rows
  pub renamed : IsRenamed old.marks d to rows made

-- what comes of a declaration that can have the name: nothing is to be done, or the change; or want of memory
pub data IsNewlyNamed (old : Project) (d : ℕ) (family to : List ℕ) : Result Change ChangeFault → Type 0 where
  same : {change : Change} → bytes_eq (name old.marks.rows.now d) to ≡ true → IsFinished (unchanged old.marks) course.Same change → IsNewlyNamed old d family to (Ok change)
  other : {change : Change} → bytes_eq (name old.marks.rows.now d) to ≡ false → IsNewName old d family to change → IsNewlyNamed old d family to (Ok change)
  memory : IsNewlyNamed old d family to (Err fault.OutOfMemory)

-- the declaration, if it can have the name, or the first reason why it cannot
pub data IsRenamable (m : Marks) (found : Option ℕ) (family to : List ℕ) : Result ℕ Reason → Type 0 where
  reaches : reaches_prelude m family ≡ true → IsRenamable m found family to (Err reason.ReachesPrelude)
  bad_name : reaches_prelude m family ≡ false → (IsIdentifier to → ⊥) → IsRenamable m found family to (Err reason.BadName)
  nothing : reaches_prelude m family ≡ false → IsIdentifier to → found ≡ None → IsRenamable m found family to (Err reason.WrongKind)
  able : {d : ℕ} → reaches_prelude m family ≡ false → IsIdentifier to → found ≡ Some d → IsRenamable m found family to (Ok d)

-- what comes of the declaration that is asked for, with those that are renamed together with it
pub data IsNamed (old : Project) (found : Option ℕ) (family to : List ℕ) : Result Change ChangeFault → Type 0 where
  refused : {why : Reason} → IsRenamable old.marks found family to (Err why) → IsNamed old found family to (Err (fault.Bad why))
  named : {d : ℕ} {answer : Result Change ChangeFault} → IsRenamable old.marks found family to (Ok d) → IsNewlyNamed old d family to answer → IsNamed old found family to answer

-- the same with its family; or want of memory
pub data IsAskedFor (old : Project) (found : Option ℕ) (to : List ℕ) : Result Change ChangeFault → Type 0 where
  together : {family : List ℕ} {answer : Result Change ChangeFault} → IsFamilyOf old found family → IsNamed old found family to answer → IsAskedFor old found to answer
  memory : IsAskedFor old found to (Err fault.OutOfMemory)

-- the answer: why there is no such declaration, or what comes of it
pub data IsRenameAnswer (old : Project) (file : List ℕ) (at : ℕ) (to : List ℕ) : Result Change ChangeFault → Type 0 where
  refused : {why : ChangeFault} → asked old file at ≡ Err why → IsRenameAnswer old file at to (Err why)
  answered : {found : Option ℕ} {answer : Result Change ChangeFault} → asked old file at ≡ Ok found → IsAskedFor old found to answer → IsRenameAnswer old file at to answer
