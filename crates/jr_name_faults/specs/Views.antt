-- The rows, the table and the types of a view, and through what the members before a dot are reached (JLS 6.6.1, 6.6.2).
use Rattle.std.specs.Prelude.{ℕ, zero, suc, ◌<◌, ◌^◌, Bool, true, false, not, ◌&&◌, ◌||◌, Option, Some, None, is_some, length, option_map, slice_index_or}
use Rattle.jr_tree.specs.Rows.{Rows}
use Rattle.jr_defs.specs.declared.referent.Element.{Element}
use Rattle.jr_defs.specs.declared.referent.Element.TheVariants as element
use Rattle.jr_defs.specs.declared.referent.RowType.{RowType}
use Rattle.jr_defs.specs.Referents.{Table, entries}
use Rattle.jr_defs.specs.Types.{class_type}
use Rattle.jr_plain.specs.Access.{is_accessible}
use Rattle.jr_plain.specs.Overloads.{Types}
use Rattle.jr_plain.specs.Types.{named_type}
use Rattle.jr_supers.specs.Tabled.{first_child}
use Rattle.jr_members.specs.Sources.{ArePlaced, AreSeen}
use Rattle.jr_name_rules.specs.AccessTests.{has_hidden_class}
use Rattle.jr_name_rules.specs.Found.{declared_row, found}
use Rattle.jr_view.specs.declared.View.{View}
use Rattle.jr_name_faults.specs.Imports.{IsTabledWorld}

abbrev pub rows_in : View → Rows
rows_in view = view.sight.world.under.rows.now

abbrev pub table_in : View → Table
table_in view = entries view.sight.world.under.table.now

abbrev pub types_in : View → Types
types_in view n = slice_index_or view.types.now n None

-- few rows of a program, with their places
pub record IsPlacedView (view : View) : Type 0 where
  pub few : length (rows_in view) < 2 ^ 32
  pub placed : ArePlaced (rows_in view) view.sight.world.under.places.now

-- with the supertypes that they have under the table
pub record IsSeenView (view : View) : Type 0 where
  pub few : length (rows_in view) < 2 ^ 32
  pub seen : AreSeen (rows_in view) (table_in view) view.sight.world.under.places.now view.sight.world.supers.now

-- with all that its types have under the table
abbrev pub IsTabledView : View → Type 0
IsTabledView view = IsTabledWorld view.sight.world

-- ---- what stands before a dot

abbrev pub type_of_child : Types → Option ℕ → Option RowType
type_of_child type_of None = None
type_of_child type_of (Some n) = type_of n

-- the type of the expression before the dot of o
abbrev pub type_before : Rows → Types → ℕ → Option RowType
type_before p type_of o = type_of_child type_of (first_child p o)

-- a value of the type, or of the class o for an array
abbrev pub object_by : Option ℕ → RowType → ℕ → Element → Option RowType
object_by o a zero (element.Class c) = Some a
object_by o a zero _ = None
object_by o a (suc dims) e = option_map class_type o

abbrev pub object_of : Option ℕ → Option RowType → Option RowType
object_of o None = None
object_of o (Some a) = object_by o a a.dims a.element

-- the declaration is not accessible through a value, if there is one, nor through a type before the dot
abbrev pub is_hidden_through : Rows → Table → ℕ → ℕ → Option RowType → Bool → Bool
is_hidden_through p t d o None has_type = not (is_accessible p t d o None)
is_hidden_through p t d o (Some a) has_type = not (is_accessible p t d o (Some a)) || (has_type && not (is_accessible p t d o None))

abbrev pub is_hidden_behind : View → ℕ → ℕ → Bool
is_hidden_behind view d o = is_hidden_through (rows_in view) (table_in view) d o (object_of view.sight.world.supers.now.direct.object (type_before (rows_in view) (types_in view) o)) (is_some (named_type (rows_in view) (table_in view) o))

abbrev pub is_hidden_from : View → ℕ → ℕ → Bool → Bool
is_hidden_from view d o true = is_hidden_behind view d o
is_hidden_from view d o false = not (is_accessible (rows_in view) (table_in view) d o None)

-- what the row o refers to is not accessible, or no member of what stands before its dot is
abbrev pub is_hidden_at : View → ℕ → Bool → Bool
is_hidden_at view o is_behind =
    found (declared_row (table_in view o)) (λ d. is_hidden_from view d o is_behind)
    || (is_behind && found (type_before (rows_in view) (types_in view) o) (λ a. has_hidden_class (rows_in view) (table_in view) o a))
