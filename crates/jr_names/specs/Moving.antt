-- What a request to move a top-level type to another package comes to (JLS 6.7, 7.3, 7.4, 7.6).
use Rattle.std.specs.Prelude.{◌≡◌, ℕ, Bool, true, false, not, ◌&&◌, if◌then◌else◌, List, [], ◌∷◌, length, Option, Some, None, Result, Ok, Err, codes, bytes_eq, nat_eq, nat_le}
use Rattle.jr_base.specs.declared.token.Span.{Span}
use Rattle.jr_tree.specs.Rows.{Rows, name, end}
use Rattle.jr_plain.specs.Enclosing.{is_top_level}
use Rattle.jr_plain.specs.Search.{any_below}
use Rattle.jr_marks.specs.declared.marks.Marks.{Marks}
use Rattle.jr_marks.specs.Places.{unit_of}
use Rattle.jr_edits.specs.Place.{EditList, pushed}
use Rattle.jr_text.specs.Spans.{IsExtent, part, tokens_span, unit_bytes}
use Rattle.jr_change.specs.declared.change.Change.{Change}
use Rattle.jr_change.specs.declared.change.ChangedUnit.{ChangedUnit}
use Rattle.jr_change.specs.declared.change.Course.TheVariants as course
use Rattle.jr_change.specs.declared.change.UnitSource.TheVariants as source
use Rattle.jr_change.specs.declared.project.Project.{Project}
use Rattle.jr_change.specs.declared.reason.ChangeFault.{ChangeFault}
use Rattle.jr_change.specs.declared.reason.ChangeFault.TheVariants as fault
use Rattle.jr_change.specs.declared.reason.Reason.TheVariants as reason
use Rattle.jr_draft.specs.declared.packages.Head.{Head}
use Rattle.jr_draft.specs.Asking.{asked}
use Rattle.jr_draft.specs.Drafting.{Drafted, IsFinished, begun, copied, kept, no_edits, plus, unchanged, unit_row, with_unit}
use Rattle.jr_draft.specs.Ordering.{order_with}
use Rattle.jr_draft.specs.Packages.{IsPackageName, declaration_of, head_of, name_of_package, path_of_type, with_package_rows}
use Rattle.jr_draft.specs.Parting.{Parted, parted_of}

-- ---- packages and types

-- the package that the word of a request names: `-` stands for the unnamed package, whose name is nothing (JLS 7.4.2)
pub data IsWordOf : List ℕ → List ℕ → Type 0 where
  by_dash : IsWordOf (codes "-") []
  by_name : {word : List ℕ} → IsPackageName word → IsWordOf word word

abbrev pub is_unnamed : List ℕ → Bool
is_unnamed named = nat_eq (length named) 0

-- the declaration, if it is a top-level type (JLS 7.6)
abbrev pub top_level : Rows → Option ℕ → Option ℕ
top_level p None = None
top_level p (Some d) = if is_top_level p d then Some d else None

-- what stands before the types of the unit of a row
abbrev pub head_over : Marks → ℕ → Head
head_over m d = head_of m.rows.now (unit_row m (unit_of m d))

-- a unit with this head is of the package
abbrev pub is_of : Rows → Head → List ℕ → Bool
is_of p head named = bytes_eq (name_of_package p head.declared) named

abbrev pub is_other_type : Rows → ℕ → ℕ → Bool
is_other_type p d n = not (nat_eq n d) && is_top_level p n

-- the unit at this row declares another top-level type
abbrev pub has_others : Rows → ℕ → ℕ → Bool
has_others p d unit = any_below (end p unit) (λ n. nat_le unit n && is_other_type p d n)

-- ---- a unit that moves with its only type

-- what of a package declaration the name of a package replaces: its name, and all of it where that is nothing
abbrev pub declared_span : Marks → List ℕ → ℕ → Span
declared_span m named declared = if is_unnamed named then tokens_span m declared else tokens_span m (plus declared 1)

abbrev pub put_in_front : List ℕ → EditList → EditList
put_in_front named edits = pushed edits (record { start = 0; end = 0 }) (declaration_of named)

-- the package of a unit becomes another one: in its declaration, or by one in front where there is none (JLS 7.4)
abbrev pub redeclared : Marks → List ℕ → Option ℕ → EditList → EditList
redeclared m named None edits = put_in_front named edits
redeclared m named (Some declared) edits = pushed edits (declared_span m named declared) named

-- the edits of the unit of the type d, which has this head
abbrev pub edits_of_move : Marks → Head → ℕ → List ℕ → EditList
edits_of_move m head d named = redeclared m named head.declared (no_edits (length (unit_bytes m d)))

abbrev pub moved_unit : Marks → Head → ℕ → List ℕ → List ℕ → ChangedUnit
moved_unit m head d named path = record { path = path; source = source.Edited (unit_of m d) (edits_of_move m head d named) }

-- all its rows are copies, but those of the package declaration
abbrev pub with_moved : Marks → Head → ℕ → List ℕ → List ℕ → Drafted → Drafted
with_moved m head d named path drafted =
    copied (with_package_rows named head.declared (copied (with_unit drafted (moved_unit m head d named path)) head.unit (plus head.unit 1))) head.imports (end m.rows.now head.unit)

-- with a unit: that of the type, or one that stays
abbrev pub with_one : Marks → Head → ℕ → List ℕ → List ℕ → Drafted → ℕ → Drafted
with_one m head d named path drafted unit = if nat_eq unit (unit_of m d) then with_moved m head d named path drafted else kept m unit drafted

abbrev pub with_all : Marks → Head → ℕ → List ℕ → List ℕ → List ℕ → Drafted → Drafted
with_all m head d named path [] drafted = drafted
with_all m head d named path (unit ∷ units) drafted = with_all m head d named path units (with_one m head d named path drafted unit)

-- all units in the order of their paths, of which that of the type goes to this one
abbrev pub with_path : Marks → Head → ℕ → List ℕ → List ℕ → Drafted
with_path m head d named path = with_all m head d named path (order_with m (unit_of m d) path) (begun m)

-- the unit of the type goes to the file of the type in the folder of the package
abbrev pub moved_whole : Marks → Head → ℕ → List ℕ → Drafted
moved_whole m head d named = with_path m head d named (path_of_type named (name m.rows.now d))

-- ---- a type that leaves its unit, where there are others

abbrev pub leaving : Marks → ℕ → List ℕ → Span → Parted
leaving m d named span = record {
  head = head_over m d;
  row = d;
  is_turned = false;
  named = named;
  declaration = part (unit_bytes m d) span;
  span = span;
}

-- the change in which the type has a file of its own in the package, and all else is as it was
pub record IsMovedApart (m : Marks) (d : ℕ) (named : List ℕ) (made : Change) : Type 0 where
  pub span : Span
  pub bytes : IsExtent m d span
  pub finished : IsFinished (parted_of m (leaving m d named span)) course.Same made

-- ---- the change

-- the change in which a top-level type is of another package than before: its unit goes with it where it is the only type there, else it leaves the unit
pub data IsMovedAway (m : Marks) (d : ℕ) (named : List ℕ) : Change → Type 0 where
  whole : {change : Change} → has_others m.rows.now d (head_over m d).unit ≡ false → IsFinished (moved_whole m (head_over m d) d named) course.Same change → IsMovedAway m d named change
  apart : {change : Change} → has_others m.rows.now d (head_over m d).unit ≡ true → IsMovedApart m d named change → IsMovedAway m d named change

-- the change in which a top-level type is of the package, which is none where it is so
pub data IsMoved (m : Marks) (d : ℕ) (named : List ℕ) : Change → Type 0 where
  same : {change : Change} → is_of m.rows.now (head_over m d) named ≡ true → IsFinished (unchanged m) course.Same change → IsMoved m d named change
  other : {change : Change} → is_of m.rows.now (head_over m d) named ≡ false → IsMovedAway m d named change → IsMoved m d named change

-- what comes of the declaration that is asked for, where the word names this package: that it is no top-level type, or the change; or want of memory
pub data IsInPackage (m : Marks) (found : Option ℕ) (named : List ℕ) : Result Change ChangeFault → Type 0 where
  other_kind : top_level m.rows.now found ≡ None → IsInPackage m found named (Err (fault.Bad reason.WrongKind))
  moved : {d : ℕ} {change : Change} → top_level m.rows.now found ≡ Some d → IsMoved m d named change → IsInPackage m found named (Ok change)
  memory : IsInPackage m found named (Err fault.OutOfMemory)

-- the same by the word of the request: that it names no package, or what comes of it
pub data IsAskedFor (m : Marks) (found : Option ℕ) (word : List ℕ) : Result Change ChangeFault → Type 0 where
  bad_name : ((named : List ℕ) → IsWordOf word named → ⊥) → IsAskedFor m found word (Err (fault.Bad reason.BadName))
  into : {named : List ℕ} {answer : Result Change ChangeFault} → IsWordOf word named → IsInPackage m found named answer → IsAskedFor m found word answer

-- the answer: why there is no such declaration, or what comes of it
pub data IsMoveAnswer (old : Project) (file : List ℕ) (at : ℕ) (word : List ℕ) : Result Change ChangeFault → Type 0 where
  refused : {why : ChangeFault} → asked old file at ≡ Err why → IsMoveAnswer old file at word (Err why)
  answered : {found : Option ℕ} {answer : Result Change ChangeFault} → asked old file at ≡ Ok found → IsAskedFor old.marks found word answer → IsMoveAnswer old file at word answer
