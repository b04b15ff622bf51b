-- What a request to inline a local comes to (JLS 6.3, 14.4, 14.11, 14.14.1, 15.12).
use Rattle.std.specs.Prelude.{◌≡◌, ℕ, zero, suc, ◌-◌, Bool, true, false, ◌&&◌, ◌||◌, if◌then◌else◌, List, [], length, Option, Some, None, Result, Ok, Err, nat_eq, nat_lt}
use Rattle.jr_tree.specs.declared.label.Label.{Label}
use Rattle.jr_tree.specs.declared.label.Label.TheVariants as is
use Rattle.jr_tree.specs.declared.label.ReceiverKind.{ReceiverKind}
use Rattle.jr_tree.specs.declared.label.ReceiverKind.TheVariants as on
use Rattle.jr_tree.specs.Rows.{Rows, label, parent}
use Rattle.jr_defs.specs.declared.referent.Referent.{Referent}
use Rattle.jr_defs.specs.declared.referent.RowType.{RowType}
use Rattle.jr_shapes.specs.Parts.{end_of}
use Rattle.jr_marks.specs.declared.marks.Marks.{Marks}
use Rattle.jr_marks.specs.Places.{unit_of}
use Rattle.jr_edits.specs.Place.{EditList, pushed}
use Rattle.jr_text.specs.Spans.{own_span, unit_bytes}
use Rattle.jr_change.specs.declared.change.Change.{Change}
use Rattle.jr_change.specs.declared.change.ChangedUnit.{ChangedUnit}
use Rattle.jr_change.specs.declared.change.Course.{Course}
use Rattle.jr_change.specs.declared.change.Course.TheVariants as course
use Rattle.jr_change.specs.declared.change.RowRange.{RowRange}
use Rattle.jr_change.specs.declared.change.UnitSource.TheVariants as source
use Rattle.jr_change.specs.declared.project.Project.{Project}
use Rattle.jr_change.specs.declared.reason.ChangeFault.{ChangeFault}
use Rattle.jr_change.specs.declared.reason.ChangeFault.TheVariants as fault
use Rattle.jr_change.specs.declared.reason.Reason.TheVariants as reason
use Rattle.jr_draft.specs.Asking.{rows_of, table_of, asked}
use Rattle.jr_draft.specs.Drafting.{Drafted, IsFinished, begun, copied, kept, no_edits, path_of, plus, turned, unit_row, with_unit}
use Rattle.jr_inline.specs.declared.course.Fate.{Fate}
use Rattle.jr_inline.specs.declared.course.Fate.TheVariants as fate
use Rattle.jr_inline.specs.declared.course.Inlining.{Inlining}
use Rattle.jr_inline.specs.declared.form.Form.{Form}
use Rattle.jr_inline.specs.declared.local.Local.{Local}
use Rattle.jr_inline.specs.declared.removal.Joined.{Joined}
use Rattle.jr_inline.specs.declared.removal.Removal.{Removal}
use Rattle.jr_inline.specs.Inlinable.{inlinable, is_row, refers_by, scope_end}
use Rattle.jr_inline.specs.Removing.{is_gone, joined_by, removal_of}
use Rattle.jr_inline.specs.Forms.{IsCast, form_of, form_rows, form_text, is_name, value_text}

-- what a start becomes by a step at each number from the first on up to before another one
abbrev pub by_each : {A : Type 0} → ℕ → (ℕ → A → A) → A → ℕ → A
by_each first step start zero = start
by_each first step start (suc n) = let before = by_each first step start n in if nat_lt n first then before else step n before

-- ---- the plan

-- a local of a program that is inlined, and what goes with it
pub record Plan : Type 0 where
  pub rows : Rows
  pub table : List Referent
  pub local : Local
  pub removal : Removal
  pub joined : Option Joined
  pub cast : Option RowType

abbrev pub plan_by : Inlining → Plan
plan_by i = record { rows = i.rows.now; table = i.table.now; local = i.local; removal = i.removal; joined = i.joined; cast = i.cast }

pub record IsPlanOf (old : Project) (local : Local) (plan : Plan) : Type 0 where
  pub rows_are : plan.rows ≡ rows_of old
  pub table_is : plan.table ≡ table_of old
  pub local_is : plan.local ≡ local
  pub goes : plan.removal ≡ removal_of old.marks local
  pub joins : plan.joined ≡ joined_by (rows_of old) (removal_of old.marks local).rows
  pub casts : IsCast old local plan.cast

-- ---- what becomes of a row

abbrev pub is_name_receiver : ReceiverKind → Bool
is_name_receiver on.Name = true
is_name_receiver _ = false

abbrev pub is_call_of_name_by : Label → Bool
is_call_of_name_by (is.Call receiver) = is_name_receiver receiver
is_call_of_name_by _ = false

abbrev pub is_for_by : Label → Bool
is_for_by (is.For has_first has_condition) = true
is_for_by _ = false

-- a call with a name before its dot
abbrev pub is_call_of_name : Rows → ℕ → Bool
is_call_of_name p n = is_call_of_name_by (label p n)

abbrev pub is_for : Rows → ℕ → Bool
is_for p n = is_for_by (label p n)

-- the row refers to the local
abbrev pub is_use : Plan → ℕ → Bool
is_use plan n = is_row (refers_by plan.table n) plan.local.declarator

-- the last identifier of a name whose first one, which is the last row below it, refers to the local
abbrev pub begins_with_local : Plan → ℕ → Bool
begins_with_local plan n = is_name plan.rows n && is_use plan (end_of plan.rows n - 1)

-- these rows begin right below the row, and behind it
abbrev pub begins_with : Rows → RowRange → ℕ → Bool
begins_with p r n = nat_eq (parent p r.first) n && nat_eq r.first (plus n 1)

-- a `for` whose first part goes
abbrev pub loses_first_part : Plan → ℕ → Bool
loses_first_part plan n = is_for plan.rows n && begins_with plan.rows plan.removal.rows n

-- the row stays, with another label: of a longer name a selection is left, which is no name before the dot of a call, and a `for` has no first part
abbrev pub is_turned : Plan → ℕ → Bool
is_turned plan n = if is_call_of_name plan.rows n then begins_with_local plan (plus n 1) else (begins_with_local plan n || loses_first_part plan n)

-- of two groups that become one the copy of the second stands in place of the first
abbrev pub fate_in : Joined → ℕ → Fate
fate_in joined n = if nat_eq n joined.first then fate.Instead joined.next else (if nat_eq n joined.next then fate.Gone else fate.Kept)

abbrev pub joined_fate : Option Joined → ℕ → Fate
joined_fate None n = fate.Kept
joined_fate (Some joined) n = fate_in joined n

abbrev pub fate_of : Plan → ℕ → Fate
fate_of plan n = if is_gone plan.removal.rows n then fate.Gone else (if is_use plan n then fate.Replaced else (if is_turned plan n then fate.Turned else joined_fate plan.joined n))

abbrev pub is_kept : Fate → Bool
is_kept fate.Kept = true
is_kept _ = false

abbrev pub is_replaced : Fate → Bool
is_replaced fate.Replaced = true
is_replaced _ = false

abbrev pub form_at : Plan → ℕ → Form
form_at plan n = form_of plan.rows plan.local.value plan.cast n

-- ---- texts

abbrev pub with_initializer : Marks → Plan → ℕ → EditList → EditList
with_initializer marks plan n edits = pushed edits (own_span marks n) (form_text plan.rows (value_text marks plan.local.value) (form_at plan n))

-- a use becomes the initializer in its form
abbrev pub with_use : Marks → Plan → ℕ → EditList → EditList
with_use marks plan n edits = if is_replaced (fate_of plan n) then with_initializer marks plan n edits else edits

-- so does each use from a row on up to before another one
abbrev pub uses_between : Marks → Plan → ℕ → EditList → ℕ → EditList
uses_between marks plan first edits behind = by_each first (with_use marks plan) edits behind

-- and each use in the scope of the local
abbrev pub with_uses : Marks → Plan → EditList → EditList
with_uses marks plan edits = uses_between marks plan plan.local.declarator edits (scope_end plan.rows plan.local)

-- the declaration goes
abbrev pub without_local : Plan → EditList → EditList
without_local plan edits = pushed edits plan.removal.span []

-- the edits of the text of the unit of the local
abbrev pub edits_in : Marks → Plan → EditList
edits_in marks plan = with_uses marks plan (without_local plan (no_edits (length (unit_bytes marks plan.local.declarator))))

-- ---- rows

-- what stands in place of a row
abbrev pub fate_rows : Fate → Plan → ℕ → Drafted → Drafted
fate_rows fate.Kept plan n d = copied d n (plus n 1)
fate_rows fate.Turned plan n d = turned d n
fate_rows fate.Gone plan n d = d
fate_rows fate.Replaced plan n d = form_rows plan.rows plan.local.value (form_at plan n) d
fate_rows (fate.Instead row) plan n d = copied d row (plus row 1)

-- rows so far, and the first one of those that stay and are still to be copied
pub record Copies : Type 0 where
  pub draft : Drafted
  pub first : ℕ

abbrev pub past_row : Plan → ℕ → Copies → Copies
past_row plan n c = record { draft = fate_rows (fate_of plan n) plan n (copied c.draft c.first n); first = plus n 1 }

-- a row that stays is copied with those beside it
abbrev pub with_row : Plan → ℕ → Copies → Copies
with_row plan n c = if is_kept (fate_of plan n) then c else past_row plan n c

abbrev pub rows_to : Plan → ℕ → Drafted → ℕ → Copies
rows_to plan first d behind = by_each first (with_row plan) (record { draft = d; first = first }) behind

abbrev pub last_copied : Copies → ℕ → Drafted
last_copied c behind = copied c.draft c.first behind

-- with what stands in place of the rows from one on up to before another one
abbrev pub rows_between : Plan → ℕ → ℕ → Drafted → Drafted
rows_between plan first behind d = last_copied (rows_to plan first d behind) behind

-- with what stands in place of a row and of all below it
abbrev pub with_rows : Plan → ℕ → Drafted → Drafted
with_rows plan over d = rows_between plan over (end_of plan.rows over) d

-- ---- the change

abbrev pub edited_unit : Marks → Plan → ℕ → ChangedUnit
edited_unit marks plan unit = record { path = path_of marks unit; source = source.Edited unit (edits_in marks plan) }

abbrev pub with_edited : Marks → Plan → ℕ → Drafted → Drafted
with_edited marks plan unit d = with_rows plan (unit_row marks unit) (with_unit d (edited_unit marks plan unit))

-- the unit of the local is edited, and each other one stays
abbrev pub with_one : Marks → Plan → ℕ → Drafted → Drafted
with_one marks plan unit d = if nat_eq unit (unit_of marks plan.local.declarator) then with_edited marks plan unit d else kept marks unit d

-- the units of the workspace among the first ones, so many of them; they stand behind the two of the prelude
abbrev pub units_to : Marks → Plan → ℕ → Drafted
units_to marks plan count = by_each 2 (with_one marks plan) (begun marks) count

abbrev pub draft_of : Marks → Plan → Drafted
draft_of marks plan = units_to marks plan (length marks.units.now)

abbrev pub course_of : Local → Course
course_of local = course.Inlined local.declarator local.statement

-- the change in which the local is gone and each use is its initializer, and all else is as it was
pub record IsInlined (old : Project) (local : Local) (change : Change) : Type 0 where
  pub plan : Plan
  pub is_plan : IsPlanOf old local plan
  pub finished : IsFinished (draft_of old.marks plan) (course_of local) change

-- what comes of a local that can be inlined: the change; or want of memory, which is also told where the copies of the initializer have more than 64 MiB, or what is replaced
-- does not stand apart
pub data IsInlinedBy (old : Project) (local : Local) : Result Change ChangeFault → Type 0 where
  made : {change : Change} → IsInlined old local change → IsInlinedBy old local (Ok change)
  memory : IsInlinedBy old local (Err fault.OutOfMemory)

-- what comes of what is asked for: that it is of another kind, or what comes of it
pub data IsAskedFor (old : Project) (found : Option ℕ) : Result Change ChangeFault → Type 0 where
  stays : inlinable old found ≡ None → IsAskedFor old found (Err (fault.Bad reason.WrongKind))
  goes : {local : Local} {answer : Result Change ChangeFault} → inlinable old found ≡ Some local → IsInlinedBy old local answer → IsAskedFor old found answer

-- the answer: why there is no such declaration, or what comes of it
pub data IsInlineAnswer (old : Project) (file : List ℕ) (at : ℕ) : Result Change ChangeFault → Type 0 where
  refused : {why : ChangeFault} → asked old file at ≡ Err why → IsInlineAnswer old file at (Err why)
  answered : {found : Option ℕ} {answer : Result Change ChangeFault} → asked old file at ≡ Ok found → IsAskedFor old found answer → IsInlineAnswer old file at answer
