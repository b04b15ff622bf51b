-- Tables in which no value is missing: each row has what the rows below it give, and each variable what its initializer gives.
use Rattle.std.specs.Prelude.{◌≡◌, ℕ, ◌+◌, ◌≤◌, Bool, true, Option, Some, slice_set}
use Rattle.jr_base.specs.declared.constant.Const.{Const}
use Rattle.jr_tree.specs.Rows.{Rows, label}
use Rattle.jr_defs.specs.Operators.{assigned_to}
use Rattle.jr_defs.specs.Referents.{Table}
use Rattle.jr_plain.specs.Constants.{is_initialized, converted_as}
use Rattle.jr_plain.specs.Conversions.{Constants, of_two}
use Rattle.jr_plain.specs.Types.{type_of_declared}
use Rattle.jr_constants.specs.declared.value.Value.{Value}
use Rattle.jr_constants.specs.declared.constants.Constants as code
use Rattle.jr_constants.specs.Values.{value_in_if}
use Rattle.jr_constants.specs.Tables.{values_in, valued_by, IsGrown, AreKnown}

abbrev pub values_of : code.Constants → Constants
values_of found = values_in found.texts found.values.items

abbrev pub variables_of : code.Constants → Constants
variables_of found = values_in found.texts found.variables.items

-- the value of the row n by the tables is put in its place
pub record SetsRow (p : Rows) (t : Table) (k : ℕ → Bool) (n : ℕ) (old new : code.Constants) : Type 0 where
  pub value : Option Value
  pub is : value_in_if new.texts value ≡ valued_by p t k (variables_of old) (values_of old) n (label p n)
  pub set : new.values.items ≡ slice_set old.values.items n value
  pub kept : new.variables.items ≡ old.variables.items
  pub grown : IsGrown old.texts new.texts

-- the value of each row from n on is that by the tables
abbrev pub IsStableFrom : Rows → Table → (ℕ → Bool) → code.Constants → ℕ → Type 0
IsStableFrom p t k found n = (m : ℕ) → n ≤ m → values_of found m ≡ valued_by p t k (variables_of found) (values_of found) m (label p m)

abbrev pub IsStable : Rows → Table → (ℕ → Bool) → code.Constants → Type 0
IsStable p t k found = (m : ℕ) → values_of found m ≡ valued_by p t k (variables_of found) (values_of found) m (label p m)

-- the variable d has a value, if its initializer has one that makes it one
abbrev pub IsRestingAt : Rows → Table → code.Constants → ℕ → Type 0
IsRestingAt p t found d = is_initialized p d ≡ true → (w : Const) → of_two (converted_as p assigned_to) (type_of_declared p t d) (values_of found (d + 2)) ≡ Some w → (x : Const) × (variables_of found d ≡ Some x)

abbrev pub IsResting : Rows → Table → code.Constants → Type 0
IsResting p t found = (d : ℕ) → IsRestingAt p t found d

-- the values are right, and none is missing
pub record IsAtRest (p : Rows) (t : Table) (k : ℕ → Bool) (found : code.Constants) : Type 0 where
  pub known : AreKnown p t k found.texts found.variables.items found.values.items
  pub stable : IsStable p t k found
  pub resting : IsResting p t found
