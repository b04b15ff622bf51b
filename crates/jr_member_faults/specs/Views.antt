-- The rows, the table and the places of a view, and what is to be right of them.
use Rattle.std.specs.Prelude.{◌≡◌, ℕ}
use Rattle.jr_tree.specs.Rows.{Rows}
use Rattle.jr_defs.specs.Referents.{Table, entries}
use Rattle.jr_plain.specs.Constants.{variable_value}
use Rattle.jr_places.specs.Places.{ArePlaces}
use Rattle.jr_supers.specs.Signatures.{AreSignatures}
use Rattle.jr_supers.specs.Tabled.{IsSized}
use Rattle.jr_members.specs.declared.members.World.{World}
use Rattle.jr_dispatch.specs.Methods.{IsWholeWorld}
use Rattle.jr_constants.specs.Resting.{variables_of}
use Rattle.jr_member_rules.specs.Computed.{values}
use Rattle.jr_view.specs.declared.View.{View}

abbrev pub rows_in : View → Rows
rows_in view = view.sight.world.under.rows.now

abbrev pub table_in : View → Table
table_in view = entries view.sight.world.under.table.now

abbrev pub rows_of : World → Rows
rows_of world = world.under.rows.now

abbrev pub table_of : World → Table
table_of world = entries world.under.table.now

-- names are those of the rows
abbrev pub IsNamedWorld : World → Type 0
IsNamedWorld world = ArePlaces (rows_of world) world.under.places.now

-- signatures are those of the methods
abbrev pub IsSignedWorld : World → Type 0
IsSignedWorld world = AreSignatures (rows_of world) (table_of world) world.members.now.callables.signatures

-- rows that can be counted, with their supertypes and members under the table, where Object names nothing in its header
pub record IsRightWorld (world : World) : Type 0 where
  pub sized : IsSized (rows_of world)
  pub whole : IsWholeWorld (table_of world) world

-- the values of variables are those of the definition
abbrev pub IsValuedView : View → Type 0
IsValuedView view = (d : ℕ) → variables_of view.constants.now d ≡ variable_value (rows_in view) (table_in view) (values (rows_in view) (table_in view)) d
