-- The rows, the table, the types and the constants of a view, and when they are right.
use Rattle.std.specs.Prelude.{ℤ, Option, Some, None, slice_index_or}
use Rattle.jr_tree.specs.Rows.{Rows}
use Rattle.jr_defs.specs.Referents.{Table, entries}
use Rattle.jr_plain.specs.Conversions.{Constants}
use Rattle.jr_plain.specs.Overloads.{Types}
use Rattle.jr_supers.specs.Tabled.{IsSized}
use Rattle.jr_members.specs.Sources.{AreSeen}
use Rattle.jr_constants.specs.declared.value.Value.{Value}
use Rattle.jr_constants.specs.declared.value.Value.TheVariants as v
use Rattle.jr_constants.specs.Resting.{values_of}
use Rattle.jr_view.specs.declared.View.{View}

abbrev pub rows_in : View → Rows
rows_in view = view.sight.world.under.rows.now

abbrev pub table_in : View → Table
table_in view = entries view.sight.world.under.table.now

abbrev pub types_in : View → Types
types_in view n = slice_index_or view.types.now n None

abbrev pub constants_in : View → Constants
constants_in view = values_of view.constants.now

-- rows that can be counted, with their places and the supertypes that they have under the table
pub record IsSeenView (view : View) : Type 0 where
  pub sized : IsSized (rows_in view)
  pub seen : AreSeen (rows_in view) (table_in view) view.sight.world.under.places.now view.sight.world.supers.now

-- the int that a value is, if it is one
abbrev pub int_in : Option Value → Option ℤ
int_in (Some (v.Int z)) = Some z
int_in _ = None
