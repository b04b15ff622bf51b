-- Expressions that have another type after an inline of a local (JLS 4.12.2, 15, 15.28).
use Rattle.std.specs.Prelude.{◌≡◌, ◌⊎◌, ℕ, ◌≤◌, ◌<◌, ◌^◌, Bool, true, false, not, ◌&&◌, ◌||◌, if◌then◌else◌, List, length, Option, Some, None, nat_eq, nat_lt}
use Rattle.jr_base.specs.declared.constant.Const.{Const}
use Rattle.jr_base.specs.declared.constant.Const.TheVariants as constant
use Rattle.jr_base.specs.declared.token.Place.{Place}
use Rattle.jr_tree.specs.Rows.{Rows}
use Rattle.jr_defs.specs.declared.referent.Element.{Element}
use Rattle.jr_defs.specs.declared.referent.Element.TheVariants as element
use Rattle.jr_defs.specs.declared.referent.RowType.{RowType}
use Rattle.jr_plain.specs.Conversions.{Constants}
use Rattle.jr_plain.specs.Overloads.{Types}
use Rattle.jr_constants.specs.Resting.{values_of}
use Rattle.jr_constants.specs.Values.{is_text}
use Rattle.jr_constants.specs.declared.value.Value.{Value}
use Rattle.jr_marks.specs.Places.{IsOrdered, place_of_name}
use Rattle.jr_marks.specs.declared.marks.Marks.{Marks}
use Rattle.jr_view.specs.declared.View.{View}
use Rattle.jr_change.specs.declared.change.Change.{Change}
use Rattle.jr_change.specs.declared.change.Course.{Course}
use Rattle.jr_change.specs.declared.change.Course.TheVariants as course
use Rattle.jr_change.specs.declared.change.RowRange.{RowRange}
use Rattle.jr_change.specs.declared.project.Locks.{Locks}
use Rattle.jr_change.specs.declared.project.Project.{Project}
use Rattle.jr_locks.specs.Changed.{origins_by, copies_by}
use Rattle.jr_locks.specs.Origins.{origin_of, row_by}
use Rattle.jr_draft.specs.Asking.{rows_of}
use Rattle.jr_inline.specs.declared.retyped.Retyping.{Retyping}
use Rattle.jr_inline.specs.declared.retyped.Typing.{Typing}
use Rattle.jr_inline.specs.Forms.{has_type, type_in}
use Rattle.jr_inline.specs.Removing.{is_gone, rows_at}

-- ---- types and constants

-- the types of the expressions of a program, and the values of those that are constant
pub record Typed : Type 0 where
  pub types : Types
  pub values : Constants

abbrev pub is_string : Option Const → Bool
is_string (Some (constant.Str units)) = true
is_string _ = false

-- a type with the class of this row, if there is one
abbrev pub class_type : Option ℕ → ℕ → Option RowType
class_type None dims = None
class_type (Some class) dims = Some (record { element = element.Class class; dims = dims })

abbrev pub moved_by : Element → List ℕ → RowType → Option RowType
moved_by (element.Class class) copies ty = class_type (row_by (origin_of copies class)) ty.dims
moved_by _ copies ty = Some ty

-- an old type in the changed program, where a class is its copy; none where that has no copy
abbrev pub moved_type : List ℕ → Option RowType → Option RowType
moved_type copies None = None
moved_type copies (Some ty) = moved_by ty.element copies ty

-- ---- expressions of another type

-- the local that a change inlines, if it does
abbrev pub inlined_local : Course → Option ℕ
inlined_local (course.Inlined local statement) = Some local
inlined_local _ = None

-- The row of a program that is changed by the inline of a local comes from an old one outside its declarator, and has another type than that, or one of the two is a constant string and the other is not.
pub record IsRetyped (p : Rows) (change : Change) (before after : Typed) (row : ℕ) : Type 0 where
  pub local : ℕ
  pub inlines : inlined_local change.course ≡ Some local
  pub from : ℕ
  pub comes : row_by (origin_of (origins_by change) row) ≡ Some from
  pub stays : is_gone (rows_at p local) from ≡ false
  pub differs : (moved_type (copies_by (origins_by change) (length p)) (before.types from) ≡ after.types row → ⊥) ⊎ (is_string (before.values from) ≡ is_string (after.values row) → ⊥)

-- a place in an earlier unit, or at a lower offset of one unit
abbrev pub IsBefore : Place → Place → Type 0
IsBefore one other = (one.cu.0 < other.cu.0) ⊎ ((one.cu.0 ≡ other.cu.0) × (one.at < other.at))

-- it is the first of all such rows by the place of its name, and of those at one place the first row
pub record IsFirstRetyped (p : Rows) (change : Change) (before after : Typed) (m : Marks) (row : ℕ) : Type 0 where
  pub retyped : IsRetyped p change before after row
  pub first : (other : ℕ) → IsRetyped p change before after other → IsBefore (place_of_name m other) (place_of_name m row) → ⊥
  pub lowest : (other : ℕ) → IsRetyped p change before after other → place_of_name m other ≡ place_of_name m row → row ≤ other

-- what is found: the first such row, or that there is none
abbrev pub IsRetypedIf : Rows → Change → Typed → Typed → Marks → Option ℕ → Type 0
IsRetypedIf p change before after m None = (row : ℕ) → IsRetyped p change before after row → ⊥
IsRetypedIf p change before after m (Some row) = IsFirstRetyped p change before after m row

-- some row of the changed program is retyped, and the place is that of the first
pub record HasRetyped (p : Rows) (change : Change) (before after : Typed) (m : Marks) (place : Place) : Type 0 where
  pub row : ℕ
  pub first : IsFirstRetyped p change before after m row
  pub at : place ≡ place_of_name m row

-- the types and constants of a view are these
pub record IsTypedAs (view : View) (typed : Typed) : Type 0 where
  pub types : (n : ℕ) → type_in view.types.now n ≡ typed.types n
  pub values : (n : ℕ) → values_of view.constants.now n ≡ typed.values n

-- the old program and that which the change makes of it are seen with these types and constants, and the origins and first copies of rows are those of the change
pub record AreCompared (old new : Project) (locks : Locks) (change : Change) (before after : Typed) : Type 0 where
  pub ordered : IsOrdered new.marks
  pub few : length locks.origin.items < 2 ^ 32
  pub origins : locks.origin.items ≡ origins_by change
  pub copies : locks.copy.items ≡ copies_by (origins_by change) (length (rows_of old))
  pub before_is : IsTypedAs old.view before
  pub after_is : IsTypedAs new.view after

-- ---- what the code reads

abbrev pub is_text_if : Option Value → Bool
is_text_if None = false
is_text_if (Some found) = is_text found

abbrev pub is_same_type : Option RowType → Option RowType → Bool
is_same_type (Some ty) found = has_type found ty
is_same_type None None = true
is_same_type None (Some ty) = false

abbrev pub is_other : Bool → Bool → Bool
is_other one other = if one then not other else other

-- the types before and after, the origins and copies of rows, and the old rows of the declarator
pub record Comparison : Type 0 where
  pub before : Typed
  pub after : Typed
  pub origins : List ℕ
  pub copies : List ℕ
  pub gone : RowRange

abbrev pub typed_by : Typing → Typed
typed_by t = record { types = type_in t.types.now; values = values_of t.constants.now }

abbrev pub typed_in : View → Typed
typed_in view = record { types = type_in view.types.now; values = values_of view.constants.now }

abbrev pub comparison : Retyping → Comparison
comparison r = record { before = typed_by r.before; after = typed_by r.after; origins = r.origin.now; copies = r.copy.now; gone = r.gone }

abbrev pub comparison_of : Project → Project → Locks → ℕ → Comparison
comparison_of old new locks local = record { before = typed_in old.view; after = typed_in new.view; origins = locks.origin.items; copies = locks.copy.items; gone = rows_at (rows_of old) local }

abbrev pub has_other_type : Comparison → ℕ → ℕ → Bool
has_other_type c from row = not (is_same_type (moved_type c.copies (c.before.types from)) (c.after.types row))

abbrev pub has_other_string : Comparison → ℕ → ℕ → Bool
has_other_string c from row = is_other (is_string (c.before.values from)) (is_string (c.after.values row))

abbrev pub is_typed_anew : Comparison → ℕ → ℕ → Bool
is_typed_anew c from row = has_other_type c from row || has_other_string c from row

abbrev pub is_retyped_from : Comparison → ℕ → ℕ → Bool
is_retyped_from c from row = not (is_gone c.gone from) && is_typed_anew c from row

abbrev pub is_retyped_if : Option ℕ → Comparison → ℕ → Bool
is_retyped_if None c row = false
is_retyped_if (Some from) c row = is_retyped_from c from row

abbrev pub is_retyped : Comparison → ℕ → Bool
is_retyped c row = is_retyped_if (row_by (origin_of c.origins row)) c row

abbrev pub is_before : Place → Place → Bool
is_before one other = nat_lt one.cu.0 other.cu.0 || (nat_eq one.cu.0 other.cu.0 && nat_lt one.at other.at)

-- of two rows with their places the second, where it stands before the first
abbrev pub earlier : ℕ → Place → ℕ → Place → ℕ
earlier first place row other = if is_before other place then row else first

abbrev pub first_of : Marks → Option ℕ → ℕ → Option ℕ
first_of m None row = Some row
first_of m (Some first) row = Some (earlier first (place_of_name m first) row (place_of_name m row))

-- the first of the rows found so far and the next one, if that is found too
abbrev pub first_with : Comparison → Marks → Option ℕ → ℕ → Option ℕ
first_with c m first row = if is_retyped c row then first_of m first row else first

-- of the rows below the end that pass the test none stands before this one, and none at its place has a lower number
pub record IsFirstBelow (test : ℕ → Bool) (m : Marks) (end row : ℕ) : Type 0 where
  pub is : test row ≡ true
  pub below : row < end
  pub first : (other : ℕ) → other < end → test other ≡ true → IsBefore (place_of_name m other) (place_of_name m row) → ⊥
  pub lowest : (other : ℕ) → other < end → test other ≡ true → place_of_name m other ≡ place_of_name m row → row ≤ other

abbrev pub IsFoundBelow : (ℕ → Bool) → Marks → ℕ → Option ℕ → Type 0
IsFoundBelow test m end None = (row : ℕ) → row < end → test row ≡ true → ⊥
IsFoundBelow test m end (Some row) = IsFirstBelow test m end row
