-- What is to be known where a row is looked up, and rows that have what lookup gives there.
use Rattle.std.specs.Prelude.{◌≡◌, ℕ, ◌+◌, ◌<◌, ◌≤◌, ◌^◌, List, length, Option, Some, slice_get}
use Rattle.jr_tree.specs.Rows.{Rows, label, sought_at}
use Rattle.jr_defs.specs.declared.referent.Referent.{Referent}
use Rattle.jr_defs.specs.declared.referent.Referent.TheVariants.{ArrayLength, Declared}
use Rattle.jr_defs.specs.declared.referent.RowType.{RowType}
use Rattle.jr_defs.specs.Referents.{Table}
use Rattle.jr_defs.specs.Declarations.{IsVariable}
use Rattle.jr_defs.specs.Imports.{java_lang}
use Rattle.jr_defs.specs.Packages.{InPackage}
use Rattle.jr_defs.specs.Constants.{HasConstantForm}
use Rattle.jr_defs.specs.Typing.{TypeOf}
use Rattle.jr_defs.specs.Lookup.{Look}
use Rattle.jr_plain.specs.Search.{Finds}
use Rattle.jr_plain.specs.Typing.{IsVariableLabel}
use Rattle.jr_places.specs.declared.places.Places.{Places}
use Rattle.jr_supers.specs.declared.subtypes.Supers.{Supers}
use Rattle.jr_supers.specs.Tabled.{IsSized}
use Rattle.jr_members.specs.declared.members.Members.{Members}
use Rattle.jr_members.specs.Held.{ObjectIsBare, ObjectIsNoInterface}
use Rattle.jr_members.specs.Sources.{AreSeen}
use Rattle.jr_members.specs.Worlds.{AreMembersOf}
use Rattle.jr_lookup.specs.declared.imports.Imports.{Imports}
use Rattle.jr_lookup.specs.declared.scopes.Scopes.{Scopes}
use Rattle.jr_lookup.specs.Behind.{type_in, RefersByNames}
use Rattle.jr_lookup.specs.Imports.{AreImports}
use Rattle.jr_lookup.specs.Locals.{AreLocalsPlaced}
use Rattle.jr_lookup.specs.Scopes.{AreScopes, AreTops}
use Rattle.jr_bind.specs.Before.{IsTypedBefore, NeedsBefore, NeedsBehind}
use Rattle.jr_bind.specs.declared.stages.Stage.{Stage}

-- what lookup gives at the row under the table
abbrev pub IsLookedUp : Rows → Table → ℕ → Referent → Type 0
IsLookedUp p t n a = Look p t (HasConstantForm p t) n a

-- rows of a program with the prelude, few enough to be counted, whose locals stand where they may
pub record AreLookable (p : Rows) : Type 0 where
  pub few : length p + 3 < 2 ^ 32
  pub sized : IsSized p
  pub bare : ObjectIsBare p
  pub locals : AreLocalsPlaced p
  pub lang : InPackage p java_lang 1

-- what is known of the rows is so under the table
pub record AreKnown (p : Rows) (t : Table) (places : Places) (scopes : Scopes) (supers : Supers) (members : Members) (imports : Imports) : Type 0 where
  pub lookable : AreLookable p
  pub seen : AreSeen p t places supers
  pub members_are : AreMembersOf p t supers members
  pub class : ObjectIsNoInterface p
  pub scopes_are : AreScopes p scopes
  pub tops : AreTops p places scopes
  pub imports_are : AreImports p t imports

-- the types of what stands behind a row are known
pub record AreTypedBehind (p : Rows) (t : Table) (types : List (Option RowType)) (n : ℕ) : Type 0 where
  pub refers : RefersByNames p t
  pub typed : (m : ℕ) → n < m → Finds (type_in types m) (λ a. TypeOf p t (HasConstantForm p t) m a)

abbrev pub AreTypedIfNeeded : Rows → Table → List (Option RowType) → ℕ → Type 0
AreTypedIfNeeded p t types n = (NeedsBefore (sought_at p n) → IsTypedBefore p t types n) × (NeedsBehind (sought_at p n) → AreTypedBehind p t types n)

-- what refers to a type or a package is named so, and names and fields alone refer to variables
pub record AreNamedSo (p : Rows) (t : Table) : Type 0 where
  pub refers : RefersByNames p t
  pub variable : (n d : ℕ) (level : Option ℕ) → t n ≡ Declared d level → IsVariable p d → IsVariableLabel (label p n)
  pub length_of : (n : ℕ) → t n ≡ ArrayLength → IsVariableLabel (label p n)

-- the row has what lookup gives there under a table that the stage has filled behind it
pub record IsFilledAt (p : Rows) (stages : List Stage) (stage : Stage) (start end : Table) (n : ℕ) : Type 0 where
  pub under : Table
  pub off : (m : ℕ) → (slice_get stages m ≡ Some stage → ⊥) → under m ≡ start m
  pub after : (m : ℕ) → n < m → under m ≡ end m
  pub looked : IsLookedUp p under n (end n)

-- so it is at the rows of a stage from a number on
abbrev pub AreFilledFrom : Rows → List Stage → Stage → Table → Table → ℕ → Type 0
AreFilledFrom p stages stage start end at = (n : ℕ) → at ≤ n → slice_get stages n ≡ Some stage → IsFilledAt p stages stage start end n
