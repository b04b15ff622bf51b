-- What a view of a bound program has to be for flow (JLS 15.28).
use Rattle.std.specs.Prelude.{◌≡◌, ℕ, ◌+◌, ◌<◌, ◌^◌, length, is_some}
use Rattle.jr_tree.specs.Rows.{Rows}
use Rattle.jr_defs.specs.Referents.{entries}
use Rattle.jr_supers.specs.Supers.{AreSupersOf}
use Rattle.jr_types.specs.Typed.{types_in}
use Rattle.jr_constants.specs.Tables.{item}
use Rattle.jr_view.specs.declared.View.{View}
use Rattle.jr_flow_defs.specs.Meaning.{Meaning}

abbrev pub rows_in : View → Rows
rows_in view = view.sight.world.under.rows.now

-- the view is of the meaning: its table, supertypes and types are those of the meaning, and so is what is constant. Rows are few enough to be counted.
pub record IsViewOf (view : View) (m : Meaning) : Type 0 where
  pub few : length (rows_in view) + 3 < 2 ^ 32
  pub targets : entries view.sight.world.under.table.now ≡ m.targets
  pub supers : AreSupersOf (rows_in view) m.targets view.sight.world.supers.now
  pub types : (n : ℕ) → types_in view.types.now n ≡ m.types n
  pub constants : (n : ℕ) → is_some (item view.constants.now.values.items n) ≡ is_some (m.values n)
