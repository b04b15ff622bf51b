-- What is found where names are looked up, and then all else.
use Rattle.std.specs.Prelude.{◌≡◌, ℕ, ◌<◌, true, false, List, length, Option, Some, slice_get}
use Rattle.jr_tree.specs.Rows.{Rows, sought_at}
use Rattle.jr_defs.specs.declared.referent.Referent.{Referent}
use Rattle.jr_defs.specs.declared.referent.Referent.TheVariants.{Unbound, Declared}
use Rattle.jr_defs.specs.Referents.{Table, entries}
use Rattle.jr_defs.specs.Declarations.{IsType, IsString}
use Rattle.jr_defs.specs.Binding.{IsBound}
use Rattle.jr_defs.specs.Headers.{NamesHeader}
use Rattle.jr_places.specs.declared.places.Places.{Places}
use Rattle.jr_supers.specs.declared.subtypes.Supers.{Supers}
use Rattle.jr_supers.specs.Supers.{HasNoCycle}
use Rattle.jr_members.specs.Sources.{AreSeen}
use Rattle.jr_constants.specs.declared.constants.Constants.{Constants}
use Rattle.jr_constants.specs.Resting.{values_of}
use Rattle.jr_types.specs.Typed.{AreTypes}
use Rattle.jr_bind.specs.declared.filling.Filling.{Filling}
use Rattle.jr_bind.specs.declared.filling.Known.{Known}
use Rattle.jr_bind.specs.declared.stages.Stage.{Stage}
use Rattle.jr_bind.specs.declared.stages.Stage.TheVariants as stage
use Rattle.jr_bind.specs.Late.{seeks_type, seeks_nothing}
use Rattle.jr_bind.specs.Filled.{table_of, AgreeOnTypes}
use Rattle.jr_bind.specs.Exact.{IsProgramIn, AreConstants}
use Rattle.jr_bind.specs.Looked.{IsLookedUp, AreLookable}
use Rattle.jr_bind.specs.Turns.{IsKnownUnder}
use Rattle.jr_lookup.specs.declared.scopes.Scopes.{Scopes}
use Rattle.jr_lookup.specs.Scopes.{AreScopes, AreTops}

-- names of types stay, and the constants and types of expressions are those under the new table
pub record FillsNames (p : Rows) (places : Places) (supers : Supers) (old new : Filling) (found : Constants) : Type 0 where
  pub same : AgreeOnTypes p (table_of old) (table_of new)
  pub constants_are : AreConstants p (table_of new) found
  pub types_are : AreSeen p (table_of old) places supers → AreTypes p (table_of new) (values_of found) new.types.items

-- ---- what the names and all else refer to

-- names in headers refer to types
pub record HasHeaderTypes (p : Rows) (t : Table) : Type 0 where
  pub types : (c n s : ℕ) (level : Option ℕ) → NamesHeader p c n → t n ≡ Declared s level → IsType p s

-- there is a place for each row, and what seeks no type is not bound
pub record BindsTypes (p : Rows) (table : List Referent) : Type 0 where
  pub size : length table ≡ length p
  pub unseen : (n : ℕ) → seeks_type (sought_at p n) ≡ false → entries table n ≡ Unbound

-- rows with their scopes, of a program with one String
pub record AreSetting (p : Rows) (places : Places) (scopes : Scopes) : Type 0 where
  pub lookable : AreLookable p
  pub scopes_are : AreScopes p scopes
  pub tops : AreTops p places scopes
  pub one_string : (s d : ℕ) → IsString p s → IsString p d → s ≡ d

-- what is right before names are looked up
pub record IsReadyToName (known : Known) (filling : Filling) : Type 0 where
  pub known_is : IsKnownUnder (table_of filling) known
  pub one_string : (s d : ℕ) → IsString known.setting.rows.now s → IsString known.setting.rows.now d → s ≡ d
  pub binds : BindsTypes known.setting.rows.now filling.table.items

-- the rows of the last two stages are what lookup gives under the table, and what looks for nothing is not bound
pub record AreLookedUpIn (p : Rows) (stages : List Stage) (t : Table) : Type 0 where
  pub names : (n : ℕ) → slice_get stages n ≡ Some stage.Name → IsLookedUp p t n (t n)
  pub others : (n : ℕ) → slice_get stages n ≡ Some stage.Other → IsLookedUp p t n (t n)
  pub nothing : (n : ℕ) → seeks_nothing (sought_at p n) ≡ true → t n ≡ Unbound

-- so are the rows that look for types
abbrev pub AreTypesLookedUp : Rows → Table → Type 0
AreTypesLookedUp p t = (n : ℕ) → n < length p → seeks_type (sought_at p n) ≡ true → IsLookedUp p t n (t n)

-- where no type is above itself, and the rows that look for types are what lookup gives under the table, all rows are
abbrev pub IsBoundByTypes : Rows → Places → Scopes → Table → Type 0
IsBoundByTypes p places scopes t = AreSetting p places scopes → IsProgramIn p places → HasNoCycle p t → AreTypesLookedUp p t → IsBound p t
