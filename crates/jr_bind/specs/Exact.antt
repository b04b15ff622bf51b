-- What a bound program has of its table.
use Rattle.std.specs.Prelude.{◌≡◌, ℕ, Bool, List, Option, Some, ⊤}
use Rattle.jr_base.specs.declared.constant.Const.{Const}
use Rattle.jr_tree.specs.Rows.{Rows}
use Rattle.jr_defs.specs.declared.referent.RowType.{RowType}
use Rattle.jr_defs.specs.Referents.{Table, entries}
use Rattle.jr_defs.specs.Constants.{Constant}
use Rattle.jr_plain.specs.Constants.{constants, has_constant_form}
use Rattle.jr_plain.specs.Typing.{IsTypable}
use Rattle.jr_places.specs.declared.places.Places.{Places}
use Rattle.jr_supers.specs.declared.subtypes.Supers.{Supers}
use Rattle.jr_supers.specs.Supers.{IsWellHeaded, HasNoCycle}
use Rattle.jr_supers.specs.Tabled.{IsSized}
use Rattle.jr_members.specs.declared.members.Members.{Members}
use Rattle.jr_members.specs.Held.{ObjectIsBare, ObjectIsNoInterface}
use Rattle.jr_members.specs.Sources.{ArePlaced, AreSeen}
use Rattle.jr_members.specs.Worlds.{AreMembersOf}
use Rattle.jr_constants.specs.declared.constants.Constants as code
use Rattle.jr_constants.specs.Resting.{values_of, IsAtRest}
use Rattle.jr_types.specs.Typed.{AreTypes}
use Rattle.jr_bind.specs.declared.binder.Bound.{Bound}
use Rattle.jr_bind.specs.declared.binder.Binding.{Binding}
use Rattle.jr_bind.specs.declared.binder.Binding.TheVariants as binding

-- rows of a program with one bare Object, few enough to be counted, with their places
pub record IsProgramIn (p : Rows) (places : Places) : Type 0 where
  pub placed : ArePlaced p places
  pub well : IsWellHeaded p
  pub sized : IsSized p
  pub bare : ObjectIsBare p

-- the references that are read as constants are those of the form, and no value is missing
pub record AreFormed (p : Rows) (t : Table) (found : code.Constants) : Type 0 where
  pub picked : ℕ → Bool
  pub formed : (n : ℕ) → picked n ≡ has_constant_form p t n
  pub at_rest : IsAtRest p t picked found

-- the values are those of constants, and all of them where expressions have one type
pub record AreConstants (p : Rows) (t : Table) (found : code.Constants) : Type 0 where
  pub sound : (n : ℕ) (v : Const) → values_of found n ≡ Some v → Constant p t n v
  pub whole : IsTypable p t → (n : ℕ) → values_of found n ≡ constants p t (has_constant_form p t) n
  pub formed : AreFormed p t found

-- the supertypes, members, constants and types of expressions under the table
pub record AreUnder (p : Rows) (t : Table) (places : Places) (supers : Supers) (members : Members) (found : code.Constants) (types : List (Option RowType)) : Type 0 where
  pub seen : AreSeen p t places supers
  pub members_are : AreMembersOf p t supers members
  pub constants_are : AreConstants p t found
  pub types_are : AreTypes p t (values_of found) types
  pub class : ObjectIsNoInterface p

-- those of a bound program under its own table
abbrev pub IsBoundBy : Rows → Places → Bound → Type 0
IsBoundBy p places bound = AreUnder p (entries bound.table.items) places bound.supers.value bound.members.value bound.constants.value bound.types.items

-- so it is where no type is above itself
abbrev pub IsExact : Rows → Places → Bound → Type 0
IsExact p places bound = IsProgramIn p places → HasNoCycle p (entries bound.table.items) → IsBoundBy p places bound

abbrev pub IsExactBinding : Rows → Places → Binding → Type 0
IsExactBinding p places (binding.Bound bound) = IsExact p places bound.value
IsExactBinding p places (binding.Cycle first) = ⊤
