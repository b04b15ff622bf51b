-- What a request to pull a method up comes to (JLS 6.1, 8.1.3, 8.1.4, 8.4).
use Rattle.std.specs.Prelude.{◌≡◌, ℕ, zero, suc, ◌-◌, ◌<◌, Bool, not, ◌&&◌, ◌||◌, if◌then◌else◌, List, [], ◌∷◌, ◌++◌, length, min, max, Option, Some, None, Result, Ok, Err, nat_eq, nat_le, nat_lt}
use Rattle.jr_base.specs.declared.token.Span.{Span}
use Rattle.jr_tree.specs.declared.label.Role.TheVariants as role
use Rattle.jr_tree.specs.Rows.{Rows, end, role_at}
use Rattle.jr_defs.specs.Referents.{Table}
use Rattle.jr_defs.specs.Supertypes.{Superclass}
use Rattle.jr_plain.specs.Declarations.{is_class}
use Rattle.jr_plain.specs.Enclosing.{declaring_type, is_body_of}
use Rattle.jr_plain.specs.Modifiers.{is_inner}
use Rattle.jr_plain.specs.Same.{same_role}
use Rattle.jr_plain.specs.Search.{Finds, first_below}
use Rattle.jr_supers.specs.Supers.{AreSupersOf}
use Rattle.jr_marks.specs.declared.marks.Marks.{Marks}
use Rattle.jr_marks.specs.Places.{unit_of}
use Rattle.jr_edits.specs.Place.{EditList, pushed}
use Rattle.jr_text.specs.Spans.{IsExtent, part, tokens_span, unit_bytes}
use Rattle.jr_change.specs.declared.change.Change.{Change}
use Rattle.jr_change.specs.declared.change.ChangedUnit.{ChangedUnit}
use Rattle.jr_change.specs.declared.change.Course.TheVariants as course
use Rattle.jr_change.specs.declared.change.Raised.{Raised}
use Rattle.jr_change.specs.declared.change.UnitSource.TheVariants as source
use Rattle.jr_change.specs.declared.project.Project.{Project}
use Rattle.jr_change.specs.declared.reason.ChangeFault.{ChangeFault}
use Rattle.jr_change.specs.declared.reason.ChangeFault.TheVariants as fault
use Rattle.jr_change.specs.declared.reason.Reason.{Reason}
use Rattle.jr_change.specs.declared.reason.Reason.TheVariants as reason
use Rattle.jr_draft.specs.Asking.{rows_of, asked, is_in_prelude}
use Rattle.jr_draft.specs.Drafting.{Drafted, begun, copied, kept, no_edits, path_of, unit_row, with_unit}
use Rattle.jr_pullup.specs.declared.pulled.Pulled.{Pulled}

-- ---- what is pulled up, and where it goes

abbrev pub is_method : Rows → ℕ → Bool
is_method p d = same_role (role_at p d) role.Method

abbrev pub class_by : Rows → ℕ → Option ℕ → Option ℕ
class_by p d None = None
class_by p d (Some c) = if is_method p d && is_class p c then Some c else None

-- the class whose method this is (JLS 8.4); constructors, methods of an interface and all else have none
abbrev pub class_of_method : Rows → ℕ → Option ℕ
class_of_method p d = class_by p d (declaring_type p d)

-- the superclass of a class by any table under which the supertypes of the program are those of its rows (JLS 8.1.4)
abbrev pub IsSuperclassOf : Project → ℕ → Option ℕ → Type 0
IsSuperclassOf old c above = (t : Table) → AreSupersOf (rows_of old) t old.view.sight.world.supers.now → Finds above (Superclass (rows_of old) t c)

-- the one row stands below the other
abbrev pub is_below : Rows → ℕ → ℕ → Bool
is_below p n over = nat_lt over n && nat_lt n (end p over)

-- an inner class that stands inside the other one: its methods may need the enclosing object (JLS 8.1.3)
abbrev pub is_inner_of : Rows → ℕ → ℕ → Bool
is_inner_of p c outer = is_inner p c && is_below p c outer

-- the superclass s takes a method of the class c: it is written in the workspace, and c is no inner class in it
abbrev pub takes : Marks → ℕ → ℕ → Bool
takes m c s = not (is_in_prelude m s) && not (is_inner_of m.rows.now c s)

-- the body of a type
abbrev pub body_of : Rows → ℕ → Option ℕ
body_of p c = first_below (end p c) (λ b. nat_le c b && is_body_of p c b)

abbrev pub into_body : ℕ → ℕ → ℕ → Option ℕ → Result Pulled Reason
into_body d c s None = Err reason.BadSuperclass
into_body d c s (Some b) = Ok (record { method = d; class = c; superclass = s; body = b })

-- what goes where, for a method of a class with this superclass; or that there is none which takes it, or that this has no body
abbrev pub into_superclass : Marks → ℕ → ℕ → Option ℕ → Result Pulled Reason
into_superclass m d c None = Err reason.BadSuperclass
into_superclass m d c (Some s) = if takes m c s then into_body d c s (body_of m.rows.now s) else Err reason.BadSuperclass

-- what goes where, for a declaration; or that it is no method of a class, or what its superclass says
pub data IsPulled (old : Project) (d : ℕ) : Result Pulled Reason → Type 0 where
  other_kind : class_of_method (rows_of old) d ≡ None → IsPulled old d (Err reason.WrongKind)
  upwards : {c : ℕ} {above : Option ℕ} {to : Result Pulled Reason} → class_of_method (rows_of old) d ≡ Some c → IsSuperclassOf old c above → to ≡ into_superclass old.marks d c above
      → IsPulled old d to

-- the same for what is asked for, which may be no declaration
abbrev pub IsPulledFor : Project → Option ℕ → Result Pulled Reason → Type 0
IsPulledFor old None to = to ≡ Err reason.WrongKind
IsPulledFor old (Some d) to = IsPulled old d to

-- ---- texts

-- right before the last byte of a body, which is its closing brace
abbrev pub before_brace : Marks → ℕ → Span
before_brace m b = let brace = (tokens_span m b).end - 1 in record { start = brace; end = brace }

-- the bytes that the method takes along, and LF
abbrev pub moved_text : Marks → Pulled → Span → List ℕ
moved_text m pulled span = part (unit_bytes m pulled.method) span ++ 10 ∷ []

-- the text comes before the closing brace of the superclass, in the unit of that
abbrev pub with_text : Marks → Pulled → Span → ℕ → EditList → EditList
with_text m pulled span unit edits = if nat_eq unit (unit_of m pulled.body) then pushed edits (before_brace m pulled.body) (moved_text m pulled span) else edits

-- the bytes go, in the unit of the method
abbrev pub without_text : Marks → Pulled → Span → ℕ → EditList → EditList
without_text m pulled span unit edits = if nat_eq unit (unit_of m pulled.method) then pushed edits span [] else edits

-- the edits of a unit: both, where class and superclass stand in one
abbrev pub edited : Marks → Pulled → Span → ℕ → EditList
edited m pulled span unit = without_text m pulled span unit (with_text m pulled span unit (no_edits (length (unit_bytes m (unit_row m unit)))))

abbrev pub edited_unit : Marks → Pulled → Span → ℕ → ChangedUnit
edited_unit m pulled span unit = record { path = path_of m unit; source = source.Edited unit (edited m pulled span unit) }

-- with such a unit, but not its rows
abbrev pub with_edited : Marks → Pulled → Span → ℕ → Drafted → Drafted
with_edited m pulled span unit d = with_unit d (edited_unit m pulled span unit)

-- ---- rows

-- copies of the rows from the first up to before the last one, but for those of the method
abbrev pub copied_but : Rows → ℕ → ℕ → ℕ → Drafted → Drafted
copied_but p method first last d = copied (copied d first (min last method)) (max first (end p method)) last

-- the rows of a unit without those of the method
abbrev pub rows_left : Marks → Pulled → ℕ → Drafted → Drafted
rows_left m pulled unit d = let row = unit_row m unit in copied_but m.rows.now pulled.method row (end m.rows.now row) d

-- the rows of the unit of the superclass, in whose body those of the method stand last
abbrev pub rows_reached : Marks → Pulled → ℕ → Drafted → Drafted
rows_reached m pulled unit d = let p = m.rows.now in let row = unit_row m unit in let behind = end p pulled.body in
    copied_but p pulled.method behind (end p row) (copied (copied_but p pulled.method row behind d) pulled.method (end p pulled.method))

abbrev pub with_rows : Marks → Pulled → ℕ → Drafted → Drafted
with_rows m pulled unit d = if nat_eq unit (unit_of m pulled.body) then rows_reached m pulled unit d else rows_left m pulled unit d

-- ---- the change

-- the method leaves the unit or comes to it
abbrev pub is_edited : Marks → Pulled → ℕ → Bool
is_edited m pulled unit = nat_eq unit (unit_of m pulled.method) || nat_eq unit (unit_of m pulled.body)

-- such a unit is edited, and each other one stays
abbrev pub with_one : Marks → Pulled → Span → ℕ → Drafted → Drafted
with_one m pulled span unit d = if is_edited m pulled unit then with_rows m pulled unit (with_edited m pulled span unit d) else kept m unit d

-- the units of the workspace among the first ones, so many of them
abbrev pub raised_below : Marks → Pulled → Span → ℕ → Drafted
raised_below m pulled span zero = begun m
raised_below m pulled span (suc unit) = let before = raised_below m pulled span unit in if nat_lt unit 2 then before else with_one m pulled span unit before

-- in the rows of the method the superclass takes the place of the class
abbrev pub raised_by : Rows → Pulled → Raised
raised_by p pulled = record { method = record { first = pulled.method; end = end p pulled.method }; from = pulled.class; to = pulled.superclass }

-- the change that was put together, in which a method is raised, and each body stays as it is
pub record IsFinishedWith (d : Drafted) (raised : Raised) (change : Change) : Type 0 where
  pub units : change.units.items ≡ d.units
  pub segments : change.segments.items ≡ d.segments
  pub namings : change.namings.items ≡ d.namings
  pub added : change.added.items ≡ d.added
  pub inner : change.inner ≡ None
  pub raises : change.raised ≡ Some raised
  pub does : change.course ≡ course.Same

-- the change in which the method stands last in the superclass with the bytes that it takes along, and all else is as it was
pub record IsRaised (m : Marks) (pulled : Pulled) (made : Change) : Type 0 where
  pub span : Span
  pub bytes : IsExtent m pulled.method span
  pub finished : IsFinishedWith (raised_below m pulled span (length m.units.now)) (raised_by m.rows.now pulled) made

-- what comes of a method that can go up: the change; or want of memory, which is also told where the closing brace stands within the bytes that go
pub data IsPulledUp (m : Marks) (pulled : Pulled) : Result Change ChangeFault → Type 0 where
  raised : {change : Change} → IsRaised m pulled change → IsPulledUp m pulled (Ok change)
  memory : IsPulledUp m pulled (Err fault.OutOfMemory)

-- what comes of what is asked for: why it cannot go up, or what comes of it
pub data IsAskedFor (old : Project) (found : Option ℕ) : Result Change ChangeFault → Type 0 where
  stays : {why : Reason} → IsPulledFor old found (Err why) → IsAskedFor old found (Err (fault.Bad why))
  goes : {pulled : Pulled} {answer : Result Change ChangeFault} → IsPulledFor old found (Ok pulled) → IsPulledUp old.marks pulled answer → IsAskedFor old found answer

-- the answer: why there is no such declaration, or what comes of it
pub data IsPullUpAnswer (old : Project) (file : List ℕ) (at : ℕ) : Result Change ChangeFault → Type 0 where
  refused : {why : ChangeFault} → asked old file at ≡ Err why → IsPullUpAnswer old file at (Err why)
  answered : {found : Option ℕ} {answer : Result Change ChangeFault} → asked old file at ≡ Ok found → IsAskedFor old found answer → IsPullUpAnswer old file at answer

-- ---- what the code holds of it

-- the method and the body are written
pub record IsWithin (p : Rows) (pulled : Pulled) : Type 0 where
  pub method : pulled.method < length p
  pub body : pulled.body < length p
