-- What the view of a bound program has.
use Rattle.std.proofs.Common.{◌≡◌, sym, subst, List}
use Rattle.jr_tree.specs.Rows.{Rows}
use Rattle.jr_defs.specs.declared.referent.Referent.{Referent}
use Rattle.jr_defs.specs.Referents.{entries}
use Rattle.jr_places.specs.declared.places.Places.{Places}
use Rattle.jr_supers.specs.declared.subtypes.Supers.{Supers}
use Rattle.jr_supers.specs.Tabled.{IsSized}
use Rattle.jr_members.specs.declared.members.Members.{Members}
use Rattle.jr_members.specs.Held.{ObjectIsBare, ObjectIsNoInterface}
use Rattle.jr_members.specs.Sources.{AreSeen}
use Rattle.jr_members.specs.Worlds.{AreMembersOf}
use Rattle.jr_bind.specs.Exact.{IsBoundBy}
use Rattle.jr_bind.proofs.Confirmed.{program_in}
use Rattle.jr_front.specs.Bound.{rows_in, table_in, IsBoundIn}
use Rattle.jr_front.specs.Viewed.{IsViewOf}
use Rattle.jr_front.specs.declared.workspace.Workspace.{Workspace}
use Rattle.jr_dispatch.specs.Methods.{IsWholeWorld}
use Rattle.jr_type_facts.specs.Views as facts
use Rattle.jr_view.specs.declared.View.{View}

-- the tables of the workspace are those under its table
module _ (w : Workspace) (view : View) (under : IsBoundBy (rows_in w) w.places.value w.bound.value) (of : IsViewOf (rows_in w) w.places.value w.scopes.value w.bound.value view) where
  seen : (p : Rows) (places : Places) (table : List Referent) (supers : Supers) → p ≡ rows_in w → places ≡ w.places.value → table ≡ w.bound.value.table.items → supers ≡ w.bound.value.supers.value → AreSeen p (entries table) places supers
  seen p places table supers rows_are places_are table_is supers_are = subst (λ r. AreSeen r (entries table) places supers) (sym rows_are)
      (subst (λ x. AreSeen (rows_in w) (entries table) x supers) (sym places_are)
      (subst (λ x. AreSeen (rows_in w) (entries x) w.places.value supers) (sym table_is)
      (subst (λ x. AreSeen (rows_in w) (table_in w) w.places.value x) (sym supers_are) under.seen)))

  seen_so : AreSeen view.sight.world.under.rows.now (entries view.sight.world.under.table.now) view.sight.world.under.places.now view.sight.world.supers.now
  seen_so = seen _ _ _ _ of.rows_are of.places_are of.table_is of.supers_are

  members_of : (p : Rows) (table : List Referent) (supers : Supers) (members : Members) → p ≡ rows_in w → table ≡ w.bound.value.table.items → supers ≡ w.bound.value.supers.value → members ≡ w.bound.value.members.value
      → AreMembersOf p (entries table) supers members
  members_of p table supers members rows_are table_is supers_are members_are = subst (λ r. AreMembersOf r (entries table) supers members) (sym rows_are)
      (subst (λ x. AreMembersOf (rows_in w) (entries x) supers members) (sym table_is)
      (subst (λ x. AreMembersOf (rows_in w) (table_in w) x members) (sym supers_are)
      (subst (λ x. AreMembersOf (rows_in w) (table_in w) w.bound.value.supers.value x) (sym members_are) under.members_are)))

  pub whole_world : ObjectIsBare (rows_in w) → IsWholeWorld (entries view.sight.world.under.table.now) view.sight.world
  whole_world bare = record {
    world_is = record {
      seen = seen_so;
      members_are = members_of _ _ _ _ of.rows_are of.table_is of.supers_are of.members_are;
      class = subst (λ r. ObjectIsNoInterface r) (sym of.rows_are) under.class;
    };
    bare = subst (λ r. ObjectIsBare r) (sym of.rows_are) bare;
  }

-- a bound program has them
module _ (w : Workspace) (view : View) (bound : IsBoundIn w) (of : IsViewOf (rows_in w) w.places.value w.scopes.value w.bound.value view) where
  pub seen_view : facts.IsSeenView view
  seen_view = record {
    sized = subst IsSized (sym of.rows_are) bound.binding.binding.well.sized;
    seen = seen_so w view bound.binding.binding.under of;
  }

  pub whole_view : IsWholeWorld (entries view.sight.world.under.table.now) view.sight.world
  whole_view = whole_world w view bound.binding.binding.under of (program_in (rows_in w) w.places.value w.scopes.value bound.of bound.binding.binding.well).bare
