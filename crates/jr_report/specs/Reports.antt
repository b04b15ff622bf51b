-- What is reported of a program, and why it is not.
use Rattle.std.specs.Prelude.{◌≡◌, ℕ, Bool, true, false, List, ◌++◌, flat_map, length, map, if◌then◌else◌, nat_lt, Some, None, Result, Ok, Err, slice_get, slice_index_or, codes, decimal}
use Rattle.std.specs.Ordering.{nat_cmp, ordering_then}
use Rattle.std.specs.declared.cmp.Ordering.{Ordering}
use Rattle.std.specs.List.Sorted.{IsPermutation, IsSorted}
use Rattle.jr_base.specs.declared.text.Text.{Text}
use Rattle.jr_base.specs.declared.token.Place.{Place}
use Rattle.jr_tree.specs.declared.label.Role.TheVariants as role
use Rattle.jr_tree.specs.Rows.{Rows, role_at}
use Rattle.jr_defs.specs.declared.program.UnitAt.{UnitAt}
use Rattle.jr_plain.specs.Declarations.{is_type}
use Rattle.jr_plain.specs.Same.{same_role}
use Rattle.jr_plain.specs.Overloads.{Types}
use Rattle.jr_supers.specs.Supers.{ListsOnce}
use Rattle.jr_marks.specs.declared.marks.Marks.{Marks}
use Rattle.jr_marks.specs.Places.{place_of_name}
use Rattle.jr_view.specs.declared.View.{View}
use Rattle.jr_change.specs.declared.project.Project.{Project}
use Rattle.jr_change.specs.declared.reason.ChangeFault.{ChangeFault}
use Rattle.jr_change.specs.declared.reason.ChangeFault.TheVariants as fault
use Rattle.jr_change.specs.declared.reason.Reason.TheVariants as reason
use Rattle.jr_draft.specs.Asking.{named_at}
use Rattle.jr_draft.specs.Drafting.{path_by}
use Rattle.jr_report.specs.declared.kind.Report.{Report}
use Rattle.jr_report.specs.declared.kind.Report.TheVariants.{References, Subtypes, Callers}
use Rattle.jr_report.specs.Listed.{rows_in, table_in, IsReferenceTo, IsSubtypeOf}
use Rattle.jr_report.specs.Calls.{IsCallerOf}

-- ---- texts

-- a line: `PATH:OFFSET`, or `prelude` for a place of the prelude
abbrev pub place_line : List UnitAt → Place → Text
place_line units place = if nat_lt place.cu.0 2 then codes "prelude\n" else (path_by (slice_get units place.cu.0) ++ codes ":" ++ decimal place.at ++ codes "\n")

-- the lines of places, and one with their number
abbrev pub report_text : List UnitAt → List Place → Text
report_text units places = flat_map (place_line units) places ++ codes "-- " ++ decimal (length places) ++ codes "\n"

-- ---- places

-- by units, and in one unit by offsets
abbrev pub program_order : Place → Place → Ordering
program_order a b = ordering_then (nat_cmp a.cu.0 b.cu.0) (nat_cmp a.at b.at)

-- the places of the names of rows, in the order of the program
pub record ArePlacesOf (m : Marks) (rows : List ℕ) (places : List Place) : Type 0 where
  pub moved : IsPermutation (map (place_of_name m) rows) places
  pub rising : IsSorted program_order places

-- the text has the place of each row that is such, once for each, and of no other
pub record IsListOf (m : Marks) (P : ℕ → Type 0) (text : Text) : Type 0 where
  pub rows : List ℕ
  pub each : ListsOnce rows P
  pub places : List Place
  pub shown : ArePlacesOf m rows places
  pub text_is : text ≡ report_text m.units.now places

-- ---- reports

-- the types of expressions that a view has
abbrev pub types_in : View → Types
types_in view n = slice_index_or view.types.now n None

-- subtypes are reported of types, and callers of methods
abbrev pub has_report : Report → Rows → ℕ → Bool
has_report References p d = true
has_report Subtypes p d = is_type p d
has_report Callers p d = same_role (role_at p d) role.Method

-- what a report on a declaration lists
abbrev pub IsListed : Report → View → ℕ → ℕ → Type 0
IsListed References view d = IsReferenceTo (rows_in view.sight.world) (table_in view.sight.world) d
IsListed Subtypes view d = IsSubtypeOf (rows_in view.sight.world) (table_in view.sight.world) d
IsListed Callers view d = IsCallerOf (rows_in view.sight.world) (table_in view.sight.world) (types_in view) d

-- the report on a declaration, or why there is none: it is of another kind
pub data IsReportOn (project : Project) (what : Report) (d : ℕ) : Result Text ChangeFault → Type 0 where
  listed : {text : Text} → has_report what (rows_in project.view.sight.world) d ≡ true → IsListOf project.marks (IsListed what project.view d) text → IsReportOn project what d (Ok text)
  other_kind : has_report what (rows_in project.view.sight.world) d ≡ false → IsReportOn project what d (Err (fault.Bad reason.WrongKind))
  no_memory : IsReportOn project what d (Err fault.OutOfMemory)

-- the report on the declaration at an offset of a file, or why there is none: there is no such file, nothing stands there, or what does names no declaration
pub data IsReportOf (project : Project) (what : Report) (file : List ℕ) (at : ℕ) : Result Text ChangeFault → Type 0 where
  on : {d : ℕ} {result : Result Text ChangeFault} → named_at project file at ≡ Ok (Some d) → IsReportOn project what d result → IsReportOf project what file at result
  no_declaration : named_at project file at ≡ Ok None → IsReportOf project what file at (Err (fault.Bad reason.WrongKind))
  unnamed : {why : ChangeFault} → named_at project file at ≡ Err why → IsReportOf project what file at (Err why)
