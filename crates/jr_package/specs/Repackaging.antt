-- What a request to give a package another name comes to (JLS 6.7, 7.4, 7.5.2).
use Rattle.std.specs.Prelude.{◌≡◌, ℕ, zero, suc, ◌-◌, Bool, true, false, ◌&&◌, if◌then◌else◌, List, [], ◌∷◌, ◌++◌, length, map, Option, Some, None, Result, Ok, Err, bytes_eq, nat_le, nat_lt}
use Rattle.jr_tree.specs.declared.label.ImportKind.{ImportKind}
use Rattle.jr_tree.specs.declared.label.ImportKind.TheVariants as importing
use Rattle.jr_tree.specs.declared.label.Label.{Label}
use Rattle.jr_tree.specs.declared.label.Label.TheVariants as is
use Rattle.jr_tree.specs.Rows.{Rows, label, end}
use Rattle.jr_defs.specs.Referents.{entries}
use Rattle.jr_defs.specs.declared.referent.Referent.{Referent}
use Rattle.jr_defs.specs.declared.referent.Referent.TheVariants as referent
use Rattle.jr_plain.specs.Search.{all_such, any_below, gathered}
use Rattle.jr_marks.specs.declared.marks.Marks.{Marks}
use Rattle.jr_edits.specs.Place.{EditList, pushed}
use Rattle.jr_text.specs.Spans.{tokens_span, unit_bytes}
use Rattle.jr_change.specs.declared.change.Change.{Change}
use Rattle.jr_change.specs.declared.change.ChangedUnit.{ChangedUnit}
use Rattle.jr_change.specs.declared.change.Course.TheVariants as course
use Rattle.jr_change.specs.declared.change.Naming.{Naming}
use Rattle.jr_change.specs.declared.change.Target.TheVariants as target
use Rattle.jr_change.specs.declared.change.UnitSource.TheVariants as source
use Rattle.jr_change.specs.declared.project.Project.{Project}
use Rattle.jr_change.specs.declared.reason.ChangeFault.{ChangeFault}
use Rattle.jr_change.specs.declared.reason.ChangeFault.TheVariants as fault
use Rattle.jr_change.specs.declared.reason.Reason.TheVariants as reason
use Rattle.jr_draft.specs.declared.packages.Head.{Head}
use Rattle.jr_draft.specs.Asking.{table_of}
use Rattle.jr_draft.specs.Drafting.{Drafted, IsFinished, begun, copied, kept, no_edits, path_of, plus, referred, turned, unchanged, unit_row, with_naming, with_unit}
use Rattle.jr_draft.specs.Ordering.{is_before}
use Rattle.jr_draft.specs.Packages.{IsPackageName, behind_last, count_identifiers, folder_of_package, head_of, name_below, name_of_package, with_package_rows}

-- a number that passes
abbrev pub only_if : Bool → ℕ → List ℕ
only_if true number = number ∷ []
only_if false number = []

-- ---- units of the package

abbrev pub head_at : Marks → ℕ → Head
head_at m unit = head_of m.rows.now (unit_row m unit)

-- the unit is exactly in the package
abbrev pub is_of : Marks → List ℕ → ℕ → Bool
is_of m from unit = bytes_eq (name_of_package m.rows.now (head_at m unit).declared) from

-- a unit of the workspace, which moves
abbrev pub is_moved : Marks → List ℕ → ℕ → Bool
is_moved m from unit = nat_le 2 unit && is_of m from unit

abbrev pub moved_units : Marks → List ℕ → List ℕ
moved_units m from = all_such (length m.units.now) (is_moved m from)

-- ---- imports of the package

abbrev pub is_kind_on_demand : ImportKind → Bool
is_kind_on_demand importing.OnDemand = true
is_kind_on_demand _ = false

abbrev pub is_on_demand : Label → Bool
is_on_demand (is.Import kind) = is_kind_on_demand kind
is_on_demand _ = false

abbrev pub is_package : Referent → Bool
is_package referent.Package = true
is_package _ = false

-- the name of the import stands for a package, and not for a type of that name
abbrev pub is_of_package : List Referent → ℕ → Bool
is_of_package t at = is_package (entries t (plus at 1))

abbrev pub has_name : Rows → List ℕ → ℕ → Bool
has_name p from at = bytes_eq (name_below p at) from

abbrev pub imports_package : Rows → List Referent → List ℕ → ℕ → Bool
imports_package p t from at = is_on_demand (label p at) && (is_of_package t at && has_name p from at)

-- the imports on demand of the package in a unit
abbrev pub imports_in : Rows → List Referent → List ℕ → Head → List ℕ
imports_in p t from head = all_such head.types (λ at. nat_le head.imports at && imports_package p t from at)

-- the last identifier of the name that stands in an import or a package declaration
abbrev pub last_of : ℕ → ℕ
last_of at = plus at 1

-- ---- texts

-- the names in these imports become the new one
abbrev pub replaced : Marks → List ℕ → List ℕ → EditList → EditList
replaced m to [] edits = edits
replaced m to (at ∷ ats) edits = replaced m to ats (pushed edits (tokens_span m (last_of at)) to)

-- the name in the package declaration becomes the new one
abbrev pub redeclared : Marks → List ℕ → Option ℕ → EditList → EditList
redeclared m to None edits = edits
redeclared m to (Some declared) edits = pushed edits (tokens_span m (last_of declared)) to

-- the edits of the unit at a row
abbrev pub edited_in : Marks → List ℕ → ℕ → Option ℕ → List ℕ → EditList
edited_in m to row declared ats = replaced m to ats (redeclared m to declared (no_edits (length (unit_bytes m row))))

-- ---- rows

-- so many identifiers that name a package and come from no old row
abbrev pub with_qualifiers : ℕ → Drafted → Drafted
with_qualifiers zero d = d
with_qualifiers (suc count) d = referred (with_qualifiers count d) target.Package None

-- the last identifier of the new name is that of the old one
abbrev pub with_name : List ℕ → ℕ → Drafted → Drafted
with_name to name d = with_qualifiers (count_identifiers to - 1) (turned d name)

-- the rows of a unit from this one on, where the names in these imports are new
abbrev pub with_imports : Rows → List ℕ → ℕ → ℕ → List ℕ → Drafted → Drafted
with_imports p to unit first [] d = copied d first (end p unit)
with_imports p to unit first (at ∷ ats) d = with_imports p to unit (end p at) ats (with_name to (last_of at) (copied d first (last_of at)))

-- ---- units

-- a unit that moves goes to the folder of the new name, under the name of its file
abbrev pub new_path : Marks → List ℕ → ℕ → List ℕ
new_path m folder unit = folder ++ behind_last (path_of m unit) 47

abbrev pub moved_unit : Marks → List ℕ → List ℕ → ℕ → Head → List ℕ → ChangedUnit
moved_unit m folder to unit head ats = record { path = new_path m folder unit; source = source.Edited unit (edited_in m to head.unit head.declared ats) }

abbrev pub with_moved : Marks → List ℕ → List ℕ → ℕ → Head → List ℕ → Drafted → Drafted
with_moved m folder to unit head ats d = with_imports m.rows.now to head.unit head.imports ats
    (with_package_rows to head.declared (copied (with_unit d (moved_unit m folder to unit head ats)) head.unit (plus head.unit 1)))

-- a unit that stays, and in which imports may name the package
abbrev pub importing_unit : Marks → List ℕ → ℕ → Head → List ℕ → ChangedUnit
importing_unit m to unit head ats = record { path = path_of m unit; source = source.Edited unit (edited_in m to head.unit None ats) }

abbrev pub with_importing : Marks → List ℕ → ℕ → Head → List ℕ → Drafted → Drafted
with_importing m to unit head ats d = with_imports m.rows.now to head.unit head.unit ats (with_unit d (importing_unit m to unit head ats))

abbrev pub with_stayed : Marks → List ℕ → ℕ → Head → List ℕ → Drafted → Drafted
with_stayed m to unit head [] d = kept m unit d
with_stayed m to unit head (at ∷ ats) d = with_importing m to unit head (at ∷ ats) d

abbrev pub with_either : Marks → List ℕ → List ℕ → List ℕ → ℕ → Head → List ℕ → Drafted → Drafted
with_either m folder from to unit head ats d = if is_of m from unit then with_moved m folder to unit head ats d else with_stayed m to unit head ats d

abbrev pub with_one : Marks → List Referent → List ℕ → List ℕ → List ℕ → Drafted → ℕ → Drafted
with_one m t folder from to d unit = with_either m folder from to unit (head_at m unit) (imports_in m.rows.now t from (head_at m unit)) d

abbrev pub with_all : Marks → List Referent → List ℕ → List ℕ → List ℕ → List ℕ → Drafted → Drafted
with_all m t folder from to [] d = d
with_all m t folder from to (unit ∷ units) d = with_all m t folder from to units (with_one m t folder from to d unit)

-- ---- their order

-- units in their new order, and those that move and do not stand among them yet
pub record Merged : Type 0 where
  pub units : List ℕ
  pub left : List ℕ

-- a unit that moves stands before one that stays
abbrev pub stands_before : Marks → List ℕ → ℕ → ℕ → Bool
stands_before m folder next unit = is_before m (new_path m folder next) next unit

-- with those that move, as far as they stand before a unit that stays
abbrev pub merged_before : Marks → List ℕ → ℕ → List ℕ → List ℕ → Merged
merged_before m folder unit units [] = record { units = units; left = [] }
merged_before m folder unit units (next ∷ left) = if stands_before m folder next unit then merged_before m folder unit (units ++ next ∷ []) left else record { units = units; left = next ∷ left }

abbrev pub with_staying : Marks → List ℕ → ℕ → Merged → Merged
with_staying m folder unit s = let more = merged_before m folder unit s.units s.left in record { units = more.units ++ unit ∷ []; left = more.left }

abbrev pub merged_step : Marks → List ℕ → List ℕ → ℕ → Merged → Merged
merged_step m folder from unit s = if is_of m from unit then s else with_staying m folder unit s

-- by the units of the workspace among the first ones, so many of them
abbrev pub merged_below : Marks → List ℕ → List ℕ → List ℕ → ℕ → Merged
merged_below m folder from moved zero = record { units = []; left = moved }
merged_below m folder from moved (suc unit) = let before = merged_below m folder from moved unit in if nat_lt unit 2 then before else merged_step m folder from unit before

abbrev pub joined : Merged → List ℕ
joined s = s.units ++ s.left

-- all units of the workspace by their new paths: those that move are of one folder, so they keep their order
abbrev pub new_order : Marks → List ℕ → List ℕ → List ℕ → List ℕ
new_order m folder from moved = joined (merged_below m folder from moved (length m.units.now))

-- ---- the change

-- the last identifiers of the names in imports on demand of the package: of one unit, and of all
abbrev pub names_of : Marks → List Referent → List ℕ → ℕ → List ℕ
names_of m t from unit = if nat_le 2 unit then map last_of (imports_in m.rows.now t from (head_at m unit)) else []

abbrev pub all_names : Marks → List Referent → List ℕ → List ℕ
all_names m t from = gathered (length m.units.now) (names_of m t from)

abbrev pub with_order : Marks → List Referent → List ℕ → List ℕ → List ℕ → List ℕ → Drafted → Drafted
with_order m t folder from to moved d = with_all m t folder from to (new_order m folder from moved) d

abbrev pub repackaged : Marks → List Referent → List ℕ → List ℕ → Drafted
repackaged m t from to = with_order m t (folder_of_package to) from to (moved_units m from) (begun m)

-- the change in which the units of the package are of another one, and all else is as it was
pub record IsRepackaged (m : Marks) (t : List Referent) (from to : List ℕ) (made : Change) : Type 0 where
  pub naming : Naming
  pub name : naming.name ≡ behind_last to 46
  pub rows : naming.rows.items ≡ all_names m t from
  pub finished : IsFinished (with_naming (repackaged m t from to) naming) course.Same made

-- what comes of two names of packages: no unit is of the first, nothing is to be done, or the change; or want of memory
pub data IsRenamed (m : Marks) (t : List Referent) (from to : List ℕ) : Result Change ChangeFault → Type 0 where
  absent : moved_units m from ≡ [] → IsRenamed m t from to (Err (fault.Bad reason.NoFile))
  same : {unit : ℕ} {units : List ℕ} {change : Change} → moved_units m from ≡ unit ∷ units → bytes_eq from to ≡ true → IsFinished (unchanged m) course.Same change → IsRenamed m t from to (Ok change)
  moved : {unit : ℕ} {units : List ℕ} {change : Change} → moved_units m from ≡ unit ∷ units → bytes_eq from to ≡ false → IsRepackaged m t from to change → IsRenamed m t from to (Ok change)
  memory : IsRenamed m t from to (Err fault.OutOfMemory)

-- the answer: that one of the names is none, or what comes of them
pub data IsRepackageAnswer (old : Project) (from to : List ℕ) : Result Change ChangeFault → Type 0 where
  bad_old : (IsPackageName from → ⊥) → IsRepackageAnswer old from to (Err (fault.Bad reason.BadName))
  bad_new : IsPackageName from → (IsPackageName to → ⊥) → IsRepackageAnswer old from to (Err (fault.Bad reason.BadName))
  named : {answer : Result Change ChangeFault} → IsPackageName from → IsPackageName to → IsRenamed old.marks (table_of old) from to answer → IsRepackageAnswer old from to answer
