-- What a request to delete a declaration comes to (JLS 6.1, 8.3, 8.4, 8.5, 9.1).
use Rattle.std.specs.Prelude.{◌≡◌, ℕ, zero, suc, ◌+◌, Bool, true, false, not, ◌&&◌, if◌then◌else◌, List, length, Option, Some, None, Result, Ok, Err, nat_eq, nat_le, nat_lt}
use Rattle.std.specs.List.{find}
use Rattle.jr_base.specs.declared.token.Span.{Span}
use Rattle.jr_tree.specs.declared.label.Role.{Role}
use Rattle.jr_tree.specs.declared.label.Role.TheVariants as role
use Rattle.jr_tree.specs.Rows.{Rows, parent, end, role_at}
use Rattle.jr_plain.specs.Same.{same_role}
use Rattle.jr_plain.specs.Search.{first_below, last_below}
use Rattle.jr_marks.specs.declared.marks.Marks.{Marks}
use Rattle.jr_marks.specs.Order.{occurrences}
use Rattle.jr_marks.specs.Places.{unit_of, place_of_name}
use Rattle.jr_text.specs.Spans.{own_span, tokens_span, IsExtent}
use Rattle.jr_change.specs.declared.change.Change.{Change}
use Rattle.jr_change.specs.declared.change.Course.TheVariants as course
use Rattle.jr_change.specs.declared.change.RowRange.{RowRange}
use Rattle.jr_change.specs.declared.project.Project.{Project}
use Rattle.jr_change.specs.declared.reason.ChangeFault.{ChangeFault}
use Rattle.jr_change.specs.declared.reason.ChangeFault.TheVariants as fault
use Rattle.jr_change.specs.declared.reason.Reason.TheVariants as reason
use Rattle.jr_draft.specs.Asking.{rows_of, refers_to, asked}
use Rattle.jr_draft.specs.Drafting.{Drafted, begun, kept, without, IsFinished}

-- ---- what goes

abbrev pub field_alone : Rows → ℕ → Option ℕ
field_alone p d = if nat_eq (end p d) (d + 1) then Some d else None

-- a type and a method go, and a field below which nothing stands: it has no initializer
abbrev pub removable_by : Role → Rows → ℕ → Option ℕ
removable_by role.Type p d = Some d
removable_by role.Method p d = Some d
removable_by role.Field p d = field_alone p d
removable_by _ p d = None

abbrev pub removable : Rows → Option ℕ → Option ℕ
removable p None = None
removable p (Some d) = removable_by (role_at p d) p d

-- a row and all below it
abbrev pub rows_at : Rows → ℕ → RowRange
rows_at p n = record { first = n; end = end p n }

abbrev pub is_field : Rows → ℕ → Bool
is_field p k = same_role (role_at p k) role.Field

abbrev pub is_field_of : Rows → ℕ → ℕ → Bool
is_field_of p declaration k = is_field p k && nat_eq (parent p k) declaration

-- the fields before and behind one in its declaration
abbrev pub field_before : Rows → ℕ → Option ℕ
field_before p d = last_below d (is_field_of p (parent p d))

abbrev pub field_behind : Rows → ℕ → Option ℕ
field_behind p d = first_below (end p 0) (λ k. nat_lt d k && is_field_of p (parent p d) k)

abbrev pub is_alone : Option ℕ → Option ℕ → Bool
is_alone None None = true
is_alone _ _ = false

-- the only field of its declaration
abbrev pub is_only_field : Rows → ℕ → Bool
is_only_field p d = is_field p d && is_alone (field_before p d) (field_behind p d)

-- the rows of a declaration: of the only field of one, whose row stands before it, those of all of it
abbrev pub removed : Rows → ℕ → RowRange
removed p d = if nat_lt (parent p d) d then (if is_only_field p d then rows_at p (parent p d) else rows_at p d) else rows_at p d

-- ---- uses

abbrev pub is_within : RowRange → ℕ → Bool
is_within r n = nat_le r.first n && nat_lt n r.end

abbrev pub is_some_within : RowRange → Option ℕ → Bool
is_some_within r None = false
is_some_within r (Some d) = is_within r d

abbrev pub refers_into : Project → RowRange → ℕ → Bool
refers_into old r n = is_some_within r (refers_to old n)

-- a row outside these rows that refers to one of them
abbrev pub is_use : Project → RowRange → ℕ → Bool
is_use old r n = not (is_within r n) && refers_into old r n

abbrev pub first_among : Project → RowRange → List ℕ → Option ℕ
first_among old r all = find (is_use old r) all

-- the first occurrence that is a use
abbrev pub first_use : Project → RowRange → Option ℕ
first_use old r = first_among old r (occurrences (rows_of old))

-- ---- the bytes that go

-- one of several fields goes with the comma before it or, where it is the first, behind it; one alone goes with its whole declaration
abbrev pub IsFieldSpan : Marks → ℕ → Option ℕ → Option ℕ → Span → Type 0
IsFieldSpan m d (Some before) behind span = span ≡ record { start = (tokens_span m before).end; end = (tokens_span m d).end }
IsFieldSpan m d None (Some behind) span = span ≡ record { start = (own_span m d).start; end = (own_span m behind).start }
IsFieldSpan m d None None span = IsExtent m (parent m.rows.now d) span

abbrev pub IsSpanBy : Role → Marks → ℕ → Span → Type 0
IsSpanBy role.Field m d span = IsFieldSpan m d (field_before m.rows.now d) (field_behind m.rows.now d) span
IsSpanBy _ m d span = IsExtent m d span

-- the bytes that go with a declaration
abbrev pub IsSpanOf : Marks → ℕ → Span → Type 0
IsSpanOf m d span = IsSpanBy (role_at m.rows.now d) m d span

-- ---- the change

-- the unit that loses the rows loses the bytes, and each other one stays
abbrev pub with_unit_left : Marks → RowRange → Span → ℕ → Drafted → Drafted
with_unit_left m r span unit d = if nat_eq unit (unit_of m r.first) then without m r span d else kept m unit d

-- by the units of the workspace among the first ones, so many of them
abbrev pub left_of : Marks → RowRange → Span → ℕ → Drafted
left_of m r span zero = begun m
left_of m r span (suc unit) = let before = left_of m r span unit in if nat_lt unit 2 then before else with_unit_left m r span unit before

-- the change in which a declaration is gone, and all else is as it was
pub record IsWithout (m : Marks) (d : ℕ) (made : Change) : Type 0 where
  pub span : Span
  pub bytes : IsSpanOf m d span
  pub finished : IsFinished (left_of m (removed m.rows.now d) span (length m.units.now)) (course.Removed (removed m.rows.now d)) made

-- what comes of a declaration that can go: the first use, or the change; or want of memory
pub data IsDeleted (old : Project) (d : ℕ) : Result Change ChangeFault → Type 0 where
  used : {o : ℕ} → first_use old (removed (rows_of old) d) ≡ Some o → IsDeleted old d (Err (fault.StillUsed (place_of_name old.marks o)))
  gone : {change : Change} → first_use old (removed (rows_of old) d) ≡ None → IsWithout old.marks d change → IsDeleted old d (Ok change)
  memory : IsDeleted old d (Err fault.OutOfMemory)

-- the answer: why there is no such declaration, that it is of no kind that goes, or what comes of it
pub data IsAnswer (old : Project) (file : List ℕ) (at : ℕ) : Result Change ChangeFault → Type 0 where
  refused : {why : ChangeFault} → asked old file at ≡ Err why → IsAnswer old file at (Err why)
  stays : {found : Option ℕ} → asked old file at ≡ Ok found → removable (rows_of old) found ≡ None → IsAnswer old file at (Err (fault.Bad reason.WrongKind))
  goes : {found : Option ℕ} {d : ℕ} {answer : Result Change ChangeFault} → asked old file at ≡ Ok found → removable (rows_of old) found ≡ Some d → IsDeleted old d answer → IsAnswer old file at answer
