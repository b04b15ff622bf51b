-- When the table of a program is its binding: each row refers to what lookup gives there under the table itself (JLS 6.5).
use Rattle.std.specs.Prelude.{◌≡◌, ℕ, ◌<◌, Bool, true, false, not, ◌&&◌, ◌||◌, List, length, Option}
use Rattle.jr_tree.specs.declared.label.Label.{Label}
use Rattle.jr_tree.specs.declared.label.Label.TheVariants as is
use Rattle.jr_tree.specs.Rows.{Rows, label, sought_at}
use Rattle.jr_defs.specs.declared.referent.Referent.{Referent}
use Rattle.jr_defs.specs.declared.referent.Referent.TheVariants.{ArrayLength, Package, Declared}
use Rattle.jr_defs.specs.declared.referent.RowType.{RowType}
use Rattle.jr_defs.specs.Referents.{Table, entries}
use Rattle.jr_defs.specs.Constants.{HasConstantForm}
use Rattle.jr_defs.specs.Declarations.{IsString}
use Rattle.jr_defs.specs.Binding.{IsBinding, IsFirstOnCycle}
use Rattle.jr_defs.specs.Imports.{java_lang}
use Rattle.jr_defs.specs.Lookup.{Look}
use Rattle.jr_defs.specs.Packages.{InPackage}
use Rattle.jr_plain.specs.Constants.{constants, has_constant_form}
use Rattle.jr_plain.specs.Conversions.{Constants}
use Rattle.jr_plain.specs.Declarations.{is_type, is_variable}
use Rattle.jr_plain.specs.Typing.{IsTypable}
use Rattle.jr_places.specs.declared.places.Places.{Places}
use Rattle.jr_places.specs.Places.{ArePlaces}
use Rattle.jr_supers.specs.declared.subtypes.Supers.{Supers}
use Rattle.jr_supers.specs.Direct.{HasSupers}
use Rattle.jr_supers.specs.Supers.{HasNoCycle}
use Rattle.jr_supers.specs.Tabled.{IsSized}
use Rattle.jr_members.specs.Held.{ObjectIsBare}
use Rattle.jr_members.specs.declared.members.Members.{Members}
use Rattle.jr_members.specs.Sources.{ArePlaced}
use Rattle.jr_constants.specs.declared.constants.Constants as code
use Rattle.jr_types.specs.Typed.{AreTypes}
use Rattle.jr_lookup.specs.declared.imports.Imports.{Imports}
use Rattle.jr_lookup.specs.declared.scopes.Scopes.{Scopes}
use Rattle.jr_lookup.specs.declared.simple.Sight.{Sight}
use Rattle.jr_lookup.specs.Behind.{CanLook}
use Rattle.jr_lookup.specs.Calls.{CanSee}
use Rattle.jr_lookup.specs.Imports.{AreImports}
use Rattle.jr_lookup.specs.Locals.{AreLocalsPlaced}
use Rattle.jr_lookup.specs.Scopes.{AreScopes, AreTops}
use Rattle.jr_lookup.specs.Sights.{IsSight}
use Rattle.jr_headed.specs.Founded.{IsProgram, AreWell}
use Rattle.jr_bind.specs.declared.binder.Binding.{Binding}
use Rattle.jr_bind.specs.declared.binder.Binding.TheVariants as found
use Rattle.jr_bind.specs.declared.binder.Bound.{Bound}
use Rattle.jr_bind.specs.Late.{seeks_type}
use Rattle.jr_bind.specs.Exact.{IsProgramIn, AreUnder}

abbrev pub rows_of : Sight → Rows
rows_of sight = sight.world.under.rows.now

abbrev pub table_of : Sight → Table
table_of sight = entries sight.world.under.table.now

-- ---- labels

-- a name, or a constructor, whose name is that of its class
abbrev pub is_type_label : Label → Bool
is_type_label (is.Name kind place is_qualified) = true
is_type_label (is.Constructor modifiers) = true
is_type_label _ = false

-- a name, or a field behind a dot
abbrev pub is_variable_label : Label → Bool
is_variable_label (is.Name kind place is_qualified) = true
is_variable_label is.Select = true
is_variable_label is.SuperSelect = true
is_variable_label _ = false

-- a row with the label may refer to the declaration d: to a type, or to a variable
abbrev pub may_refer_to : Rows → Label → ℕ → Bool
may_refer_to p l d = (not (is_type p d) || is_type_label l) && (not (is_variable p d) || is_variable_label l)

abbrev pub may_refer : Rows → Label → Referent → Bool
may_refer p l (Declared d level) = may_refer_to p l d
may_refer p l Package = is_type_label l
may_refer p l ArrayLength = is_variable_label l
may_refer p l _ = true

abbrev pub may_refer_at : Rows → Table → ℕ → Bool
may_refer_at p t n = may_refer p (label p n) (t n)

-- ---- lookup

-- what the row n refers to is what lookup gives there under the table
abbrev pub IsBoundAt : Sight → ℕ → Type 0
IsBoundAt sight n = Look (rows_of sight) (table_of sight) (HasConstantForm (rows_of sight) (table_of sight)) n (table_of sight n)

-- so it is if the row seeks a type
abbrev pub IsTypeBoundAt : Sight → ℕ → Type 0
IsTypeBoundAt sight n = seeks_type (sought_at (rows_of sight) n) ≡ true → IsBoundAt sight n

-- and at all rows
abbrev pub AreTypesBound : Sight → Type 0
AreTypesBound sight = (n : ℕ) → n < length (rows_of sight) → IsTypeBoundAt sight n

-- lookup sees at these rows what the table says
abbrev pub CanSeeTo : Sight → ℕ → Type 0
CanSeeTo sight bound = (n : ℕ) → n < bound → CanSee (table_of sight) sight n

-- the program with its supertypes, members and imports under its table
pub record CanConfirmTypes (sight : Sight) : Type 0 where
  pub sight_is : IsSight (table_of sight) sight
  pub placed : AreLocalsPlaced (rows_of sight)

-- lookup reads at these rows what the table says
abbrev pub CanLookTo : Sight → List (Option RowType) → ℕ → Type 0
CanLookTo sight types bound = (n : ℕ) → n < bound → CanLook (table_of sight) sight types n

-- the program with its supertypes, members, imports, constants and types of expressions under its table
pub record CanConfirm (constant : Constants) (sight : Sight) (types : List (Option RowType)) : Type 0 where
  pub sight_is : IsSight (table_of sight) sight
  pub sized : IsSized (rows_of sight)
  pub placed : AreLocalsPlaced (rows_of sight)
  pub bare : ObjectIsBare (rows_of sight)
  pub one_string : (s d : ℕ) → IsString (rows_of sight) s → IsString (rows_of sight) d → s ≡ d
  pub acyclic : HasNoCycle (rows_of sight) (table_of sight)
  pub constants_are : IsTypable (rows_of sight) (table_of sight) → (n : ℕ) → constant n ≡ constants (rows_of sight) (table_of sight) (has_constant_form (rows_of sight) (table_of sight)) n
  pub types_are : AreTypes (rows_of sight) (table_of sight) constant types

-- ---- programs

-- the rows of a program that begins with java.lang, with their places and scopes
pub record IsProgramOf (p : Rows) (places : Places) (scopes : Scopes) : Type 0 where
  pub program : IsProgram p
  pub places_are : ArePlaces p places
  pub scopes_are : ArePlaced p places → AreScopes p scopes
  pub tops_are : ArePlaced p places → AreTops p places scopes
  pub lang : InPackage p java_lang 1
  pub one_string : (s d : ℕ) → IsString p s → IsString p d → s ≡ d

-- the rows can be counted, no type is above itself, the table is a binding, and the other tables are those under it
pub record IsBindingUnder (p : Rows) (t : Table) (places : Places) (supers : Supers) (members : Members) (found : code.Constants) (types : List (Option RowType)) : Type 0 where
  pub well : AreWell p
  pub acyclic : HasNoCycle p t
  pub is_binding : IsBinding p t
  pub under : AreUnder p t places supers members found types

-- what tables under a table of names give where no type is above itself, and whatever is on a cycle
pub record AreTables (p : Rows) (t : Table) (places : Places) (supers : Supers) (members : Members) (imports : Imports) (found : code.Constants) (types : List (Option RowType)) : Type 0 where
  pub direct : IsProgramIn p places → HasSupers p t supers.direct.supers
  pub imports_are : IsProgramIn p places → AreImports p t imports
  pub under : IsProgramIn p places → HasNoCycle p t → AreUnder p t places supers members found types

-- those of a bound program
abbrev pub AreTablesOf : Rows → Places → Bound → Type 0
AreTablesOf p places bound = AreTables p (entries bound.table.items) places bound.supers.value bound.members.value bound.imports.value bound.constants.value bound.types.items

-- a bound program is the binding of the rows, if they are those of a program
pub record IsBindingOf (p : Rows) (places : Places) (bound : Bound) : Type 0 where
  pub binding : IsBindingUnder p (entries bound.table.items) places bound.supers.value bound.members.value bound.constants.value bound.types.items
  pub imports_are : AreImports p (entries bound.table.items) bound.imports.value

-- the binding of the rows, or the first type on a cycle of headers
abbrev pub IsFoundBinding : Rows → Places → Binding → Type 0
IsFoundBinding p places (found.Bound bound) = IsBindingOf p places bound.value
IsFoundBinding p places (found.Cycle first) = IsFirstOnCycle p first
