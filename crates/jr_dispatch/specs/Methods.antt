-- What the tables of calls are to have, for rows of shaped units with the prelude, under tables whose supertypes have no cycle.
use Rattle.std.specs.Prelude.{ℕ}
use Rattle.jr_tree.specs.Rows.{Rows}
use Rattle.jr_tree.specs.Local.{IsLocal}
use Rattle.jr_defs.specs.Referents.{Table}
use Rattle.jr_defs.specs.Declarations.{IsInterface, IsObject}
use Rattle.jr_places.specs.Places.{ArePlaces}
use Rattle.jr_places.specs.Packages.{PackagesAreNamed}
use Rattle.jr_supers.specs.Signatures.{AreSignatures}
use Rattle.jr_supers.specs.Supers.{AreSupersOf}
use Rattle.jr_members.specs.declared.declared.MemberKind.TheVariants as kind
use Rattle.jr_members.specs.Held.{ObjectIsBare}
use Rattle.jr_members.specs.Keys.{AreCallables, AreDeclared}
use Rattle.jr_members.specs.declared.members.World.{World}
use Rattle.jr_members.specs.Worlds.{IsWorld}
use Rattle.jr_dispatch.specs.declared.dispatch.Methods as methods
use Rattle.jr_dispatch.specs.declared.called.Called as called

-- Object is no interface, as the prelude has it
abbrev pub ObjectIsNoInterface : Rows → Type 0
ObjectIsNoInterface p = (o : ℕ) → IsObject p o → IsInterface p o → ⊥

-- supertypes and methods under the table
pub record AreCalled (p : Rows) (t : Table) (tables : called.Called) : Type 0 where
  pub supers : AreSupersOf p t tables.supers
  pub signatures : AreSignatures p t tables.callables.signatures
  pub callables : AreCallables p tables.callables
  pub declared : AreDeclared p kind.Method tables.declared

-- the rows, with all that calls of methods under the table read
pub record AreMethods (p : Rows) (t : Table) (all : methods.Methods) : Type 0 where
  pub local : IsLocal p
  pub packages : PackagesAreNamed p
  pub bare : ObjectIsBare p
  pub class : ObjectIsNoInterface p
  pub places : ArePlaces p all.under.places.now
  pub supers : AreSupersOf p t all.supers.now
  pub signatures : AreSignatures p t all.callables.now.signatures
  pub callables : AreCallables p all.callables.now
  pub declared : AreDeclared p kind.Method all.declared.now

-- a world in which Object names nothing in its header
pub record IsWholeWorld (t : Table) (world : World) : Type 0 where
  pub world_is : IsWorld t world
  pub bare : ObjectIsBare world.under.rows.now
