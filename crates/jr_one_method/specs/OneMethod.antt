-- What a call finds in a program of shaped units, under any table.
use Rattle.std.specs.Prelude.{◌≡◌, ℕ, List}
use Rattle.std.specs.List.{AllByRecursion}
use Rattle.jr_tree.specs.declared.tree.Unit as declared_unit
use Rattle.jr_tree.specs.Shape.{IsShaped}
use Rattle.jr_tree.specs.Rows.{Rows, program_rows}
use Rattle.jr_defs.specs.Referents.{Table}
use Rattle.jr_defs.specs.Declarations.{IsObject}
use Rattle.jr_defs.specs.Supertypes.{NamesSuperclass}
use Rattle.jr_defs.specs.Overriding.{Found}

-- a type names one superclass at most
abbrev pub NamesOneSuperclass : Rows → Type 0
NamesOneSuperclass p = (c n m : ℕ) → NamesSuperclass p c n → NamesSuperclass p c m → n ≡ m

abbrev pub TypesNameOneSuperclass : Type 0
TypesNameOneSuperclass = (units : List declared_unit.Unit) → AllByRecursion IsShaped units → NamesOneSuperclass (program_rows units)

-- one Object, as the prelude has it
abbrev pub HasNoOtherObject : Rows → Type 0
HasNoOtherObject p = (r s : ℕ) → IsObject p r → IsObject p s → r ≡ s

abbrev pub CallsFindOneMethod : Type 0
CallsFindOneMethod = (units : List declared_unit.Unit) (t : Table) (c m f g : ℕ) → AllByRecursion IsShaped units → HasNoOtherObject (program_rows units)
    → Found (program_rows units) t c m f → Found (program_rows units) t c m g → f ≡ g
