-- The view of a bound program.
use Rattle.std.specs.Prelude.{◌≡◌, ℕ, None, slice_index_or}
use Rattle.jr_tree.specs.Rows.{Rows}
use Rattle.jr_plain.specs.Constants.{variable_value}
use Rattle.jr_plain.specs.Enclosing.{innermost}
use Rattle.jr_rules.specs.Computed.{values, types}
use Rattle.jr_places.specs.declared.places.Places.{Places}
use Rattle.jr_lookup.specs.declared.scopes.Scopes.{Scopes}
use Rattle.jr_constants.specs.Resting.{variables_of}
use Rattle.jr_type_facts.specs.Views.{rows_in, table_in, types_in, constants_in}
use Rattle.jr_bind.specs.declared.binder.Bound.{Bound}
use Rattle.jr_view.specs.declared.View.{View}

-- the view has these rows, places, scopes and tables
pub record IsViewOf (rows : Rows) (places : Places) (scopes : Scopes) (bound : Bound) (view : View) : Type 0 where
  pub rows_are : view.sight.world.under.rows.now ≡ rows
  pub places_are : view.sight.world.under.places.now ≡ places
  pub table_is : view.sight.world.under.table.now ≡ bound.table.items
  pub supers_are : view.sight.world.supers.now ≡ bound.supers.value
  pub members_are : view.sight.world.members.now ≡ bound.members.value
  pub scopes_are : view.sight.scopes.now ≡ scopes
  pub imports_are : view.sight.imports.now ≡ bound.imports.value
  pub types_are : view.types.now ≡ bound.types.items
  pub constants_are : view.constants.now ≡ bound.constants.value

-- the view has of each row the type of its expression, the value where that is constant, the value of the variable that it declares where that is a constant one, and the innermost
-- type round it, as they are by the definitions (JLS 4.12.4, 8.1.3, 15, 15.28)
pub record HasTablesOfRows (view : View) : Type 0 where
  pub typed : (n : ℕ) → types_in view n ≡ types (rows_in view) (table_in view) n
  pub valued : (n : ℕ) → constants_in view n ≡ values (rows_in view) (table_in view) n
  pub variable : (d : ℕ) → variables_of view.constants.now d ≡ variable_value (rows_in view) (table_in view) (values (rows_in view) (table_in view)) d
  pub around : (n : ℕ) → slice_index_or view.sight.world.under.places.now.arounds.items n None ≡ innermost (rows_in view) n
