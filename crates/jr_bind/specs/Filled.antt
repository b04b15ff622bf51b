-- What stays where the rows of a stage are looked up.
use Rattle.std.specs.Prelude.{◌≡◌, ◌⊎◌, ℕ, ◌<◌, ◌^◌, ℤ, List, length, Option, Some, None, slice_get, slice_index_or}
use Rattle.jr_tree.specs.Rows.{Rows, sought_at}
use Rattle.jr_defs.specs.Formed.{SeeksType}
use Rattle.jr_defs.specs.declared.referent.Referent.{Referent}
use Rattle.jr_defs.specs.declared.referent.Referent.TheVariants.{Unbound}
use Rattle.jr_defs.specs.Referents.{Table, entries}
use Rattle.jr_constants.specs.declared.value.Value.{Value}
use Rattle.jr_constants.specs.declared.value.Value.TheVariants as v
use Rattle.jr_constants.specs.declared.constants.Constants as constants
use Rattle.jr_types.specs.Typed.{string_row}
use Rattle.jr_bind.specs.declared.filling.Filling as code
use Rattle.jr_bind.specs.declared.stages.Stage.{Stage}
use Rattle.jr_bind.specs.declared.stages.Stage.TheVariants as stage

abbrev pub table_of : code.Filling → Table
table_of filling = entries filling.table.items

-- a place for the type and the int of each row, no ints yet, and the class String
pub record IsReady (p : Rows) (filling : code.Filling) : Type 0 where
  pub types_size : length filling.types.items ≡ length p
  pub ints_size : length filling.ints.items ≡ length p
  pub no_ints : (k : ℕ) → slice_index_or filling.ints.items k None ≡ None
  pub string_is : length p < 2 ^ 32 → filling.string ≡ string_row p

-- the rest is as it was
pub record KeepsRest (old new : code.Filling) : Type 0 where
  pub table_size : length new.table.items ≡ length old.table.items
  pub types_size : length new.types.items ≡ length old.types.items
  pub ints_are : new.ints.items ≡ old.ints.items
  pub string_is : new.string ≡ old.string

-- at most the row n is looked up, if it is of the stage
pub record FillsRow (stages : List Stage) (stage : Stage) (n : ℕ) (old new : code.Filling) : Type 0 where
  pub others : (m : ℕ) → (slice_get stages m ≡ Some stage → m ≡ n → ⊥) → table_of new m ≡ table_of old m
  pub row : (slice_get stages n ≡ Some stage) ⊎ (table_of new n ≡ table_of old n)
  pub types_are : new.types.items ≡ old.types.items
  pub rest : KeepsRest old new

-- at most the rows of the stage are looked up
pub record FillsRows (stages : List Stage) (stage : Stage) (old new : code.Filling) : Type 0 where
  pub others : (m : ℕ) → (slice_get stages m ≡ Some stage → ⊥) → table_of new m ≡ table_of old m
  pub rest : KeepsRest old new

-- the int that a value is, if it is one
abbrev pub int_in : Option Value → Option ℤ
int_in (Some (v.Int z)) = Some z
int_in _ = None

abbrev pub int_at : constants.Constants → ℕ → Option ℤ
int_at found n = int_in (slice_index_or found.values.items n None)

-- the first n ints are those of the constants
pub record AreIntsTo (found : constants.Constants) (start ints : List (Option ℤ)) (n : ℕ) : Type 0 where
  pub size : length ints ≡ length start
  pub each : (k : ℕ) → k < n → slice_index_or ints k None ≡ int_at found k

-- what is looked up in the stage seeks no type
abbrev pub SeeksNoType : Rows → List Stage → Stage → Type 0
SeeksNoType p stages stage = (n : ℕ) → slice_get stages n ≡ Some stage → SeeksType (sought_at p n) → ⊥

-- two tables agree at the names of types
pub record AgreeOnTypes (p : Rows) (t u : Table) : Type 0 where
  pub at : (n : ℕ) → SeeksType (sought_at p n) → t n ≡ u n

-- a place for each row, with the names in headers among the first n rows as the table has them, and nothing else
pub record HoldsHeaders (stages : List Stage) (table kept : List Referent) (n : ℕ) : Type 0 where
  pub size : length kept ≡ length stages
  pub held : (m : ℕ) → m < n → slice_get stages m ≡ Some stage.Header → entries kept m ≡ entries table m
  pub left : (m : ℕ) → (slice_get stages m ≡ Some stage.Header → ⊥) → entries kept m ≡ Unbound
